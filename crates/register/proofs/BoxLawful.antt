-- The box is a lawful machine: it feeds the framing, serves what ended, and keeps its connections apart.
use mathlib.Core.Path.{◌≡◌, refl, sym, ap, ◌∙◌}
use mathlib.Core.Bool.{Bool, true, false, true≢false, ◌||◌}
use mathlib.Core.List.{List}
use mathlib.Core.Option.{Option, none, some}
use Prim.Native.Nat.{ℕ, ◌<◌}
use native.Mathlib.Omega.{arith}
use borrow.Author.Tests.{eqb-true}
use lib.Dec.{eqb}
use lib.ListN.{length}
use Rattle.laws.proofs.Tests.{by_cases}
use Rattle.steps.specs.Cut.{Got}
use Rattle.steps.specs.Steps.{start, half_after}
use Rattle.framing.specs.Reading.{Run, got_of}
use Rattle.framing.proofs.Turns.{length_run}
use Rattle.records.specs.declared.Line.{Line}
use Rattle.pulses.specs.Pulses.{short_row}
use Rattle.ring.specs.Ring.{row_after}
use Rattle.connections.specs.Lines.{is_open, connected, closed}
use Rattle.plain.specs.Events.{too_short}
use Rattle.answers.specs.Calls.{Did}
use Rattle.serving.specs.Serving.{served_message}
use Rattle.connections.proofs.Lines.{open-below}
use Rattle.halves.specs.Halves.{half_at}
use Rattle.halves.specs.Rooms.{room_at}
use Rattle.pieces.specs.Pieces.{answered, fed, bytes_call, halves_after, rooms_after}
use Rattle.pieces.proofs.Keeping as keeping
use Rattle.halves.proofs.Rooms.{room-long, room-again}
use Rattle.demand.specs.Plain.{OnlyOpen}
use Rattle.demand.specs.Demand.{refused, did, Call, bytes, other, feeds_to, Answer, answer, Meets}
use Rattle.demand.specs.Lawful as lawful-spec
use Rattle.demand.specs.Lawful.{Lawful, outside}
use Rattle.demand.proofs.Meeting.{demand-3}
use Rattle.register.specs.Box.{Event, level, pass, connect, close, collect, fill, empty, Reply, reply_of, refusing}
use Rattle.register.specs.Box.{Tables, refusal_of, happens, on, tables_after, served, Held, held, tables_of, saying, box_call, box}
use Rattle.register.proofs.Touching.{fill-event, empty-event, as-open, unmarked-settled, level-event, pass-event, collect-touches}
use Rattle.register.proofs.Numbers.{Answering, message-judged, judged-answers}
use Rattle.register.proofs.BoxCalls.{row_same, ready, feeds-effect, feeds-halves, feeds-rooms, bytes-touches, bytes_halves, bytes-rooms, bytes-half-apart, bytes-room-apart, dropped-apart, left-length, connect-apart, connect-keeps, connect-starts, close-shuts, close-apart}

-- the lengths of the box's arrays
pub record Sound (x : Held) : Type 0 where
  pub four-halves : length x.halves ≡ 4
  pub four-rooms : length x.rooms ≡ 4096

abbrev after : Held → Call served → Held
after x k = (box_call x k).0

abbrev open_at : Held → ℕ → Bool
open_at x c = is_open c x.board

-- the lengths stay
stay-sound : (x : Held) (k : Call served) → Sound x → Sound (after x k)
stay-sound x (bytes c room p) S =
    record {
      four-halves = bytes_halves c room (length x.row) p x.board x.halves x.rooms ∙ S.four-halves;
      four-rooms = bytes-rooms c room (length x.row) p x.board x.halves x.rooms ∙ S.four-rooms;
    }
stay-sound x (other e) S =
    record { four-halves = left-length (on e) (happens e (tables_of x)).answer x.halves ∙ S.four-halves; four-rooms = S.four-rooms }

pub only-open : OnlyOpen served
only-open t c room e = (ready t c room e).0

-- a refused piece changes nothing
refuses : (x : Held) (c room : ℕ) (p : List ℕ) (a : Reply) → refusal_of (tables_of x) c room ≡ some a
    → box_call x (bytes c room p) ≡ (x, answer served 0 (refused a))
unfolding bytes_call halves_after rooms_after
refuses x c room p a e = go (is_open c x.board) (too_short room || short_row (length x.row)) refl refl
  where
    kept : (r : Reply) → r ≡ a → ◌≡◌ {A = Held × Answer served}
        (held x.board x.halves x.rooms (row_after x.board x.board x.row), answer served 0 (refused r))
        (x, answer served 0 (refused a))
    kept r g = rw (row_same x.board x.row, g)

    go : (o t : Bool) → is_open c x.board ≡ o → too_short room || short_row (length x.row) ≡ t
        → box_call x (bytes c room p) ≡ (x, answer served 0 (refused a))
    go true true u v = let f : some (refusing 4) ≡ some a = rw (u, v) at e in let g : refusing 4 ≡ a = cc in rw (u, v) (kept (refusing 4) g)
    go true false u v = let f : none ≡ some a = rw (u, v) at e in let z : ◌≡◌ {A = ℕ} 0 1 = cc in absurd (omega arith)
    go false t u v = let f : some (refusing 3) ≡ some a = rw u at e in let g : refusing 3 ≡ a = cc in rw u (kept (refusing 3) g)

-- a message that ended is answered by its own number
says : (r : Reply) → Answering r.number → saying r ≡ did r
says r a = rw (a.0, a.1)

answered-says : (t : Tables) (c n : ℕ) (o : Option Got)
    → (tables_after t (answered c o t.board), answer served n (saying (reply_of (answered c o t.board)))) ≡ lawful-spec.fed served t c n o
answered-says t c n none = rw (row_same t.board t.row)
answered-says t c n (some g) =
    let d : Did = served_message c g t.board in
    ap (λ s. (tables_after t d, answer served n s)) (says (reply_of d) (judged-answers t.board d (message-judged t.board c g)))

module _ (x : Held) (c room : ℕ) (p : List ℕ) (S : Sound x) (e : refusal_of (tables_of x) c room ≡ none) where
  abbrev ρ : Run
  ρ = fed c p x.halves x.rooms

  below : c < 4
  below = open-below c x.board (ready (tables_of x) c room e).0

  room-size : length ρ.room ≡ 1024
  room-size = length_run p 0 (half_at c x.halves) (room_at c x.rooms) ∙ room-long c x.rooms below (omega (arith, S.four-rooms))

  feeds : outside served box x (bytes c room p) ≡ lawful-spec.fed served (tables_of x) c ρ.fed.taken (got_of ρ.room ρ.fed.outcome)
  feeds = rw (feeds-effect c room p (tables_of x) x.halves x.rooms e) (answered-says (tables_of x) c ρ.fed.taken (got_of ρ.room ρ.fed.outcome))

  reads : (half_at c (after x (bytes c room p)).halves ≡ half_after ρ.fed.outcome) × (room_at c (after x (bytes c room p)).rooms ≡ ρ.room)
  reads = (
    rw (feeds-halves c room p (tables_of x) x.halves x.rooms e) (keeping.reads c p x.halves x.rooms below S.four-halves),
    rw (feeds-rooms c room p (tables_of x) x.halves x.rooms e) (room-again c ρ.room x.rooms below (omega (arith, S.four-rooms)) room-size),
  )

-- an event happens to the plain machine
does : (x : Held) (e : Event)
    → outside served box x (other e) ≡ ((served.happen (tables_of x) e).0, answer served 0 (did (served.happen (tables_of x) e).1))
does x e = refl

-- a connection that stays open keeps what it has read
abbrev Keeps : Held → Call served → ℕ → Type 0
Keeps x k c = (half_at c (after x k).halves ≡ half_at c x.halves) × (room_at c (after x k).rooms ≡ room_at c x.rooms)

keeps-event : (x : Held) (e : Event) (c : ℕ) → open_at x c ≡ true → open_at (after x (other e)) c ≡ true → Keeps x (other e) c
keeps-event x (level k v) c u w = (refl, refl)
keeps-event x (pass d) c u w = (refl, refl)
keeps-event x (connect d rank strict) c u w =
    by_cases (eqb c d) same (λ n. (dropped-apart d c (connected d rank strict x.board).answer x.halves n, refl))
  where
    same : eqb c d ≡ true → Keeps x (other (connect d rank strict)) c
    same q = (rw (connect-keeps d rank strict x.board x.halves (rw (eqb-true c d q) at u)), refl)
keeps-event x (close d) c u w = by_cases (eqb c d) same (λ n. (dropped-apart d c (closed d x.board).answer x.halves n, refl))
  where
    same : eqb c d ≡ true → Keeps x (other (close d)) c
    same q = absurd (true≢false (sym (rw (eqb-true c d q) at w) ∙ close-shuts d x.board))
keeps-event x (collect d room) c u w = (refl, refl)
keeps-event x (fill place) c u w = (refl, refl)
keeps-event x (empty place) c u w = (refl, refl)

keeps : (x : Held) (k : Call served) (c : ℕ) → feeds_to served c k ≡ false → open_at x c ≡ true → open_at (after x k) c ≡ true → Keeps x k c
keeps x (bytes d room p) c n u w = (
  bytes-half-apart d room (length x.row) p x.board x.halves x.rooms c n,
  bytes-room-apart d room (length x.row) p x.board x.halves x.rooms c n,
)
keeps x (other e) c n u w = keeps-event x e c u w

-- one that is opened begins anew; nothing but an opening opens one
opens-event : (x : Held) (e : Event) (c : ℕ) → open_at x c ≡ false → open_at (after x (other e)) c ≡ true → half_at c (after x (other e)).halves ≡ start
opens-event x (level k v) c u w = absurd (true≢false (sym w ∙ as-open (unmarked-settled (level-event k v x.board)) c ∙ u))
opens-event x (pass d) c u w = absurd (true≢false (sym w ∙ as-open (unmarked-settled (pass-event d x.row x.board)) c ∙ u))
opens-event x (connect d rank strict) c u w = by_cases (eqb c d) same
    (λ n. absurd (true≢false (sym w ∙ ap (λ (l : Line). l.is_open) (connect-apart d rank strict x.board c n) ∙ u)))
  where
    same : eqb c d ≡ true → half_at c (after x (other (connect d rank strict))).halves ≡ start
    same q = rw (eqb-true c d q) (connect-starts d rank strict x.board x.halves (rw (eqb-true c d q) at u) (rw (eqb-true c d q) at w))
opens-event x (close d) c u w = by_cases (eqb c d) same (λ n. absurd (true≢false (sym w ∙ ap (λ (l : Line). l.is_open) (close-apart d x.board c n) ∙ u)))
  where
    same : eqb c d ≡ true → half_at c (after x (other (close d))).halves ≡ start
    same q = absurd (true≢false (sym (rw (eqb-true c d q) at w) ∙ close-shuts d x.board))
opens-event x (collect d room) c u w = absurd (true≢false (sym w ∙ as-open (collect-touches d room x.board).as-opened c ∙ u))
opens-event x (fill place) c u w = absurd (true≢false (sym w ∙ as-open (unmarked-settled (fill-event (length x.row) place x.board)) c ∙ u))
opens-event x (empty place) c u w = absurd (true≢false (sym w ∙ as-open (unmarked-settled (empty-event (length x.row) place x.board)) c ∙ u))

opens : (x : Held) (k : Call served) (c : ℕ) → open_at x c ≡ false → open_at (after x k) c ≡ true → half_at c (after x k).halves ≡ start
opens x (bytes d room p) c u w =
    let touched = bytes-touches d room (length x.row) p x.board x.halves x.rooms in
    absurd (true≢false (sym w ∙ as-open touched.as-opened c ∙ u))
opens x (other e) c u w = opens-event x e c u w

pub lawful : Lawful served box
lawful =
    record {
      half = λ x c. half_at c x.halves;
      room = λ x c. room_at c x.rooms;
      Sound = Sound;
      sound = stay-sound;
      wide = λ x c S o. room-long c x.rooms (open-below c x.board o) (omega (arith, S.four-rooms));
      only-open = only-open;
      refuses = refuses;
      feeds = feeds;
      reads = λ x c room p S e o. reads x c room p S e;
      does = λ x e S. does x e;
      keeps = λ x k c S. keeps x k c;
      opens = λ x k c S. opens x k c;
    }

-- so demand 3 holds of it, from every state of the right lengths whose open connections have nothing half read
pub box-meets : (x : Held) → Sound x → ((c : ℕ) → open_at x c ≡ true → half_at c x.halves ≡ start) → Meets served box x
unfolding lawful
box-meets = demand-3 served box lawful
