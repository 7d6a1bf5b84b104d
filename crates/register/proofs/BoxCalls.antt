-- The box's calls, each by itself: what a piece comes to, and what openings and closings do to each connection.
use mathlib.Core.Path.{◌≡◌, refl, sym, ap, ◌∙◌}
use mathlib.Core.Bool.{Bool, true, false, true≢false, cond, ◌||◌}
use mathlib.Core.List.{List, [], ◌∷◌}
use mathlib.Core.Option.{Option, none, some}
use Prim.Native.Nat.{ℕ, zero, suc, ◌*◌, ◌≤◌}
use native.Mathlib.Omega.{arith}
use native.Mathlib.Nat.{le_refl}
use lib.Dec.{eqb, ltb}
use lib.ListN.{length, set, drop, length-take, length-set}
use borrow.Author.Tests.{ne_eqb, le-ltb}
use Rattle.laws.proofs.Put.{length-put}
use Rattle.laws.proofs.Tests.{by_cases}
use Rattle.steps.specs.Cut.{Got}
use Rattle.steps.specs.Steps.{start, half_after}
use Rattle.framing.specs.Reading.{got_of}
use Rattle.framing.proofs.Turns.{length_run}
use Rattle.records.specs.declared.Line.{Line}
use Rattle.records.specs.Records.{line_in, line_words, shut_line}
use Rattle.rows.specs.Places.{Board, is_connection, row_at, line_at, put_line, line_place, queue_of}
use Rattle.ring.specs.declared.Pulse.{Pulse}
use Rattle.pulses.specs.Pulses.{short_row}
use Rattle.ring.specs.Ring.{row_after}
use Rattle.connections.specs.Lines.{is_open, connected, closed}
use Rattle.plain.specs.Events.{too_short}
use Rattle.halves.specs.Halves.{Halves, half_at, put_half, dropped}
use Rattle.halves.specs.Rooms.{room_at, put_room}
use Rattle.pieces.specs.Pieces.{answered, fed, fed_call, bytes_call, halves_after, rooms_after}
use Rattle.register.specs.Box.{Reply, Tables, refusal_of, On, nobody, dropping, keeping, whose, halves_left}
use Rattle.register.specs.Laws.{is_of}
use Rattle.register.proofs.Cases.{bytes-cases, connect-cases, close-cases}
use Rattle.register.proofs.Touching.{Touches, still, line-apart, message-touches}
use Rattle.register.proofs.Halves.{half-apart, half-dropped, put-length, room_apart}

-- THE ROW OF PULSES after a call: it has as many records as before, and is what it was where the queue is
pub row-long : (b b' : Board) (row : List Pulse) → length (row_after b b' row) ≡ length row
unfolding row_after
row-long b b' row = by_cases (ltb (queue_of b).standing (queue_of b').standing) (λ t. rw t (length-set row _ _)) (λ t. rw t)

pub row_same : (b : Board) (row : List Pulse) → row_after b b row ≡ row
unfolding row_after
row_same b row = rw (le-ltb (queue_of b).standing (queue_of b).standing (le_refl (queue_of b).standing))

-- BYTES. A call that is not refused: the connection is open, the buffer and the row long enough
pub ready : (t : Tables) (c room : ℕ) → refusal_of t c room ≡ none
    → (is_open c t.board ≡ true) × (too_short room || short_row (length t.row) ≡ false)
ready t c room e = go (is_open c t.board) (too_short room || short_row (length t.row)) _ _ e
  where
    go : (o t : Bool) (shut short : Reply) → cond {A = Option Reply} o (cond t (some short) none) (some shut) ≡ none → (o ≡ true) × (t ≡ false)
    go true true shut short e = let z : ◌≡◌ {A = ℕ} 0 1 = cc in absurd (omega arith)
    go true false shut short e = (refl, refl)
    go false t shut short e = let z : ◌≡◌ {A = ℕ} 0 1 = cc in absurd (omega arith)

-- then the piece is fed
module _ (c room : ℕ) (piece : List ℕ) (t : Tables) (hs : Halves) (rooms : List ℕ) (e : refusal_of t c room ≡ none) where
  pub feeds-effect : bytes_call c piece room (length t.row) t.board hs rooms ≡ fed_call c (fed c piece hs rooms) t.board
  unfolding bytes_call
  feeds-effect = rw ((ready t c room e).0, (ready t c room e).1)

  pub feeds-halves : halves_after c piece room (length t.row) t.board hs rooms ≡ put_half c (half_after (fed c piece hs rooms).fed.outcome) hs
  unfolding halves_after
  feeds-halves = rw ((ready t c room e).0, (ready t c room e).1)

  pub feeds-rooms : rooms_after c piece room (length t.row) t.board hs rooms ≡ put_room c (fed c piece hs rooms).room rooms
  unfolding rooms_after
  feeds-rooms = rw ((ready t c room e).0, (ready t c room e).1)

module _ (c room records : ℕ) (piece : List ℕ) (b : Board) (hs : Halves) (rooms : List ℕ) where
  -- what a piece leaves of the connections, refused or not
  pub bytes-touches : Touches c b (bytes_call c piece room records b hs rooms).did.board
  bytes-touches =
      bytes-cases c room records piece b hs rooms (λ e hs' rs. Touches c b e.did.board) still still
      (λ v. ended (got_of (fed c piece hs rooms).room (fed c piece hs rooms).fed.outcome))
    where
      ended : (o : Option Got) → Touches c b (answered c o b).board
      ended none = still
      ended (some g) = message-touches c g b

  pub bytes_halves : length (halves_after c piece room records b hs rooms) ≡ length hs
  bytes_halves = bytes-cases c room records piece b hs rooms (λ e hs' rs. length hs' ≡ length hs) refl refl (λ v. put-length c _ hs)

  pub bytes-rooms : length (rooms_after c piece room records b hs rooms) ≡ length rooms
  bytes-rooms = bytes-cases c room records piece b hs rooms (λ e hs' rs. length rs ≡ length rooms) refl refl (λ v. length-put _ _ rooms)

  -- another connection keeps its half-read message and its room
  pub bytes-half-apart : (d : ℕ) → eqb d c ≡ false → half_at d (halves_after c piece room records b hs rooms) ≡ half_at d hs
  bytes-half-apart d n = bytes-cases c room records piece b hs rooms (λ e hs' rs. half_at d hs' ≡ half_at d hs) refl refl
      (λ v. half-apart d c (half_after (fed c piece hs rooms).fed.outcome) hs n)

  pub room-short : length (fed c piece hs rooms).room ≤ 1024
  room-short = omega (arith, length_run piece 0 (half_at c hs) (room_at c rooms), length-take 1024 (drop (c * 1024) rooms))

  pub bytes-room-apart : (d : ℕ) → eqb d c ≡ false → room_at d (rooms_after c piece room records b hs rooms) ≡ room_at d rooms
  bytes-room-apart d n = bytes-cases c room records piece b hs rooms (λ e hs' rs. room_at d rs ≡ room_at d rooms) refl refl
      (λ v. room_apart d c (fed c piece hs rooms).room rooms room-short n)

-- OPENINGS AND CLOSINGS
shut-is-shut : (c : ℕ) (b : Board) → line_at c (put_line c shut_line b) ≡ shut_line
unfolding line_at put_line
shut-is-shut c b = go (is_connection c)
  where
    again : (b : Board) (i : ℕ) → line_in (row_at i (set b i (line_words shut_line))) ≡ shut_line
    again [] i = refl
    again (row ∷ b) zero = refl
    again (row ∷ b) (suc i) = again b i

    go : (t : Bool) → cond t (line_in (row_at (line_place c) (cond t (set b (line_place c) (line_words shut_line)) b))) shut_line ≡ shut_line
    go true = again b (line_place c)
    go false = refl

pub dropped-apart : (c d answer : ℕ) (hs : Halves) → eqb d c ≡ false → half_at d (dropped c answer hs) ≡ half_at d hs
dropped-apart c d answer hs n = by_cases (eqb answer 1) (λ q. rw q (half-apart d c start hs n)) (λ q. rw q)

dropped-length : (c answer : ℕ) (hs : Halves) → length (dropped c answer hs) ≡ length hs
dropped-length c answer hs = by_cases (eqb answer 1) (λ q. rw q (put-length c start hs)) (λ q. rw q)

-- what an event leaves of the half-read messages: as many as there were, and that of another connection than its own
pub left-length : (o : On) (answer : ℕ) (hs : Halves) → length (halves_left o answer hs) ≡ length hs
left-length nobody answer hs = refl
left-length (dropping c) answer hs = dropped-length c answer hs
left-length (keeping c) answer hs = refl

pub left-apart : (o : On) (d answer : ℕ) (hs : Halves) → is_of d (whose o) ≡ false → half_at d (halves_left o answer hs) ≡ half_at d hs
left-apart nobody d answer hs n = refl
left-apart (dropping c) d answer hs n = dropped-apart c d answer hs n
left-apart (keeping c) d answer hs n = refl

-- a refused event drops none
pub left-refused : (o : On) (answer : ℕ) (hs : Halves) → 3 ≤ answer → halves_left o answer hs ≡ hs
left-refused nobody answer hs h = refl
left-refused (dropping c) answer hs h = rw (ne_eqb answer 1 (λ q. omega arith))
left-refused (keeping c) answer hs h = refl

module _ (c rank strict : ℕ) (p : Board) where
  -- another connection is as it was
  pub connect-apart : (d : ℕ) → eqb d c ≡ false → line_at d (connected c rank strict p).board ≡ line_at d p
  connect-apart d n = connect-cases c p rank strict (λ a. line_at d a.board ≡ line_at d p) refl refl refl (λ u. line-apart c d _ p n)

  -- one that is open is not opened again, and keeps what it has read
  pub connect-keeps : (hs : Halves) → is_open c p ≡ true → dropped c (connected c rank strict p).answer hs ≡ hs
  connect-keeps hs u = connect-cases c p rank strict (λ d. dropped c d.answer hs ≡ hs) refl refl refl (λ v. absurd (true≢false (sym u ∙ v)))

  -- one that is opened begins anew
  pub connect-starts : (hs : Halves) → is_open c p ≡ false → is_open c (connected c rank strict p).board ≡ true
      → half_at c (dropped c (connected c rank strict p).answer hs) ≡ start
  connect-starts hs u =
      connect-cases c p rank strict (λ d. is_open c d.board ≡ true → half_at c (dropped c d.answer hs) ≡ start)
      (λ v. absurd (true≢false (sym v ∙ u))) (λ v. absurd (true≢false (sym v ∙ u))) (λ v. absurd (true≢false (sym v ∙ u))) (λ u' v. half-dropped c hs)

module _ (c : ℕ) (p : Board) where
  -- another connection is as it was
  pub close-apart : (d : ℕ) → eqb d c ≡ false → line_at d (closed c p).board ≡ line_at d p
  close-apart d n = close-cases c p (λ a. line_at d a.board ≡ line_at d p) refl (λ u. line-apart c d shut_line p n)

  -- one that is closed is all zero
  pub close-clears : is_open c p ≡ true → line_at c (closed c p).board ≡ shut_line
  unfolding closed
  close-clears u = rw u (shut-is-shut c p)

  -- a connection that is told to close is shut, whatever it was
  pub close-shuts : is_open c (closed c p).board ≡ false
  unfolding closed
  close-shuts = by_cases (is_open c p) (λ u. ap (λ (l : Line). l.is_open) (close-clears u)) (λ u. rw u u)
