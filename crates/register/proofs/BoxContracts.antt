-- The box of demand 3 is the entry points': whatever answer an entry point's own contract allows is the box's step.
--     contract-power-up                                     the box begins as the entry point says
--     contract-level, -pass, -connect, -close, -collect     an event's answer is the box's step
--     contract-bytes                                        a piece's answer, and all that is lent to it after the call, are the box's step
-- Those of time, of places and of bytes lend the row of pulses and stand in capi, on which this crate does not rest: their contract is written out.
-- A reply has at most 3,437 bytes (`answered-reply`, `monitor-reply`), so that the host reads it whole out of its buffer.
use mathlib.Core.Path.{◌≡◌, refl, ap}
use mathlib.Core.Bool.{Bool, true, false, cond}
use mathlib.Core.List.{List, []}
use Prim.Native.Nat.{ℕ, ◌≤◌}
use native.Mathlib.Omega.{arith}
use borrow.Author.Tests.{ltb-false}
use lib.Dec.{leb}
use lib.ListN.{length-append, length, take, length-take}
use Rattle.laws.proofs.Put.{put-here}
use Rattle.steps.specs.declared.Outcome.{Outcome}
use Rattle.steps.specs.declared.Outcome.TheVariants.{Waiting, KeepAlive, Stray, Message}
use Rattle.steps.specs.Cut.{frame, too_long}
use Rattle.framing.specs.Reading.{got_of}
use Rattle.readings.specs.Readings.{monitor_reply}
use Rattle.external.specs.External.{external_reply}
use Rattle.records.specs.declared.Line.{Line}
use Rattle.rows.specs.Places.{Board, line_at}
use Rattle.laws.proofs.Tests.{by_cases}
use Rattle.ring.specs.declared.Pulse.{Pulse}
use Rattle.pulses.specs.Pulses.{short_row}
use Rattle.ring.specs.Ring.{row_after}
use Rattle.plain.specs.Events.{leveled, time_passed, if_wanted, monitors_sent}
use Rattle.plain.proofs.Frames.{frames-append, monitor-few, external-few}
use Rattle.filling.specs.Filling.{row_emptied, filled_at, emptied_at, place_filled, place_emptied}
use Rattle.connections.specs.Lines.{connected, closed}
use Rattle.answers.specs.Calls.{Did, frames_of}
use Rattle.serving.specs.Serving.{served_message}
use Rattle.halves.specs.Halves.{Halves}
use Rattle.pieces.specs.declared.Done.{Done}
use Rattle.pieces.specs.Effects.{Effect, Ends, Answers}
use Rattle.pieces.specs.Pieces.{answered, fed, bytes_call, halves_after, rooms_after}
use Rattle.board.specs.Calls.{level_call, pass_call, connect_call, close_call, collect_call, fill_call, empty_call}
use Rattle.powerup.proofs.power_up.Reads as power-up
use Rattle.board.proofs.level.Reads as level
use Rattle.board.proofs.connect.Reads as connect
use Rattle.board.proofs.close.Reads as close
use Rattle.board.proofs.collect.Reads as collect
use Rattle.demand.specs.Demand as calls
use Rattle.register.specs.Box as box
use Rattle.register.specs.Box.{reply, reply_of, held, box_call, saying, read_of, step_of, at_power_up}
use Rattle.register.proofs.Longest.{frame-reply}
use Rattle.register.proofs.Cases.{bytes-cases, connect-cases, close-cases, collect-cases, place-cases}
use Rattle.register.proofs.BoxCalls.{room-short}

-- a reply is no longer than 3,437 bytes, whatever ended
module _ (c : ℕ) (p : Board) where
  answered-reply : (room : List ℕ) (o : Outcome) → length room ≤ 1024 → length (answered c (got_of room o) p).reply ≤ 3437
  unfolding served_message
  answered-reply room (Waiting h) l = omega arith
  answered-reply room KeepAlive l = omega arith
  answered-reply room Stray l = omega arith
  answered-reply room (Message len sum) l = go (leb len (length room))
    where
      go : (t : Bool) → length (served_message c (cond t (frame sum (take len room)) too_long) p).reply ≤ 3437
      go true = frame-reply c p sum (take len room) (omega (arith, length-take len room))
      go false = omega arith

  monitor-reply : length (monitors_sent c p).reply ≤ 3437
  unfolding monitors_sent
  monitor-reply =
      let l : Line = line_at c p in
      rw (frames-append (if_wanted l.due (monitor_reply p)) (if_wanted l.external (external_reply p)))
      (omega (
        arith,
        length-append (frames_of (if_wanted l.due (monitor_reply p))) (frames_of (if_wanted l.external (external_reply p))),
        monitor-few l.due p,
        external-few l.external p,
      ))

-- of a call that lends a buffer, so it fits
bytes-fits : (c records : ℕ) (piece : List ℕ) (b : Board) (hs : Halves) (rooms o : List ℕ)
    → length (bytes_call c piece (length o) records b hs rooms).did.reply ≤ length o
bytes-fits c records piece b hs rooms o =
    bytes-cases c (length o) records piece b hs rooms (λ e hs' rs. length e.did.reply ≤ length o) (omega arith) (omega arith)
    (λ v. omega (
      arith,
      ltb-false (length o) 4096 v,
      answered-reply c b (fed c piece hs rooms).room (fed c piece hs rooms).fed.outcome
          (room-short c (length o) records piece b hs rooms),
    ))

collect-fits : (c : ℕ) (b : Board) (o : List ℕ) → length (collect_call c (length o) b).did.reply ≤ length o
unfolding collect_call
collect-fits c b o =
    collect-cases c b (length o) (λ d. length d.reply ≤ length o) (omega arith) (omega arith) (omega arith)
    (λ v. omega (arith, ltb-false (length o) 4096 v, monitor-reply c b))

-- and is read as it was sent
read_back : (e : Effect) (b : Board) (o₀ o : List ℕ) (r : Done) → Answers e b o₀ o r → length e.did.reply ≤ length o₀ → read_of r o ≡ reply_of e.did
read_back e b o₀ o r A h = rw (A.gives, A.leaves) (ap (reply e.did.answer e.did.place) (put-here 0 e.did.reply o₀ (omega arith)))

-- of a call that lends none, there is nothing to read
unread : (d : Did) → d.reply ≡ [] → reply d.answer d.place (take (length d.reply) []) ≡ reply_of d
unread d e = rw e

-- THE CONTRACTS. a holds the arguments in their order, r is the answer, s the arguments after the call
pub contract-power-up : (κs : _) (a : _) (r : _) (s : _) → power-up.Post κs a r s → (hs : Halves) (rooms : List ℕ) (row : List Pulse)
    → held s.0.now hs rooms row ≡ at_power_up a.1.0 hs rooms row
contract-power-up κs a r s p hs rooms row = rw p

pub contract-level : (κs : _) (a : _) (r : _) (s : _) → level.Post κs a r s → (hs : Halves) (rooms : List ℕ) (row : List Pulse)
    → box_call (held a.0.now hs rooms row) (calls.other (box.level a.1.0 a.1.1.0)) ≡ step_of s.0.now hs rooms row r (calls.did (read_of r []))
unfolding level_call leveled
contract-level κs a r s p hs rooms row = rw (p.0.gives, p.0.board)

time-silent : (d : ℕ) (row : List Pulse) (b : Board) → (time_passed d row b).reply ≡ []
unfolding time_passed
time-silent d row b = by_cases (short_row (length row)) (λ s. rw s) (λ s. rw s)

pub contract-pass : (d : ℕ) (row : List Pulse) (b b' : Board) (r : Done) → Ends (pass_call d row b) b' r → (hs : Halves) (rooms : List ℕ)
    → box_call (held b hs rooms row) (calls.other (box.pass d)) ≡ step_of b' hs rooms row r (calls.did (read_of r []))
unfolding pass_call
contract-pass d row b b' r p hs rooms = rw (p.gives, p.board, unread (time_passed d row b) (time-silent d row b))

pub contract-connect : (κs : _) (a : _) (r : _) (s : _) → connect.Post κs a r s → (rooms : List ℕ) (row : List Pulse)
    → box_call (held a.0.now a.1.0.now rooms row) (calls.other (box.connect a.1.1.0 a.1.1.1.0 a.1.1.1.1.0))
    ≡ step_of s.0.now s.1.0.now rooms row r (calls.did (read_of r []))
unfolding connect_call
contract-connect κs a r s p rooms row =
    let b : Board = a.0.now in
    let silent : (connected a.1.1.0 a.1.1.1.0 a.1.1.1.1.0 b).reply ≡ [] =
    connect-cases a.1.1.0 b a.1.1.1.0 a.1.1.1.1.0 (λ d. d.reply ≡ []) refl refl refl (λ u. refl) in
    rw (p.1.0, p.0.gives, p.0.board, unread (connected a.1.1.0 a.1.1.1.0 a.1.1.1.1.0 b) silent)

pub contract-close : (κs : _) (a : _) (r : _) (s : _) → close.Post κs a r s → (rooms : List ℕ) (row : List Pulse)
    → box_call (held a.0.now a.1.0.now rooms row) (calls.other (box.close a.1.1.0))
    ≡ step_of s.0.now s.1.0.now rooms row r (calls.did (read_of r []))
unfolding close_call
contract-close κs a r s p rooms row =
    let b : Board = a.0.now in
    let silent : (closed a.1.1.0 b).reply ≡ [] = close-cases a.1.1.0 b (λ d. d.reply ≡ []) refl (λ u. refl) in
    rw (p.1.0, p.0.gives, p.0.board, unread (closed a.1.1.0 b) silent)

pub contract-collect : (κs : _) (a : _) (r : _) (s : _) → collect.Post κs a r s → (hs : Halves) (rooms : List ℕ) (row : List Pulse)
    → box_call (held a.0.now hs rooms row) (calls.other (box.collect a.1.0 (length a.1.1.0.now)))
    ≡ step_of s.0.now hs rooms row r (calls.did (read_of r s.1.1.0.now))
unfolding collect_call
contract-collect κs a r s p hs rooms row =
    let b : Board = a.0.now in
    let o : List ℕ = a.1.1.0.now in
    rw (read_back (collect_call a.1.0 (length o) b) s.0.now o s.1.1.0.now r p.0 (collect-fits a.1.0 b o), p.0.gives, p.0.board)

-- of a place: board, halves, rooms and row
pub contract-fill : (place : ℕ) (row : List Pulse) (b b' : Board) (r : Done) → Ends (fill_call place (length row) b) b' r → (hs : Halves) (rooms : List ℕ)
    → box_call (held b hs rooms row) (calls.other (box.fill place)) ≡ step_of b' hs rooms row r (calls.did (read_of r []))
unfolding fill_call place_filled
contract-fill place row b b' r p hs rooms =
    rw (p.gives, p.board, unread (place_filled (length row) place b) (place-cases filled_at (length row) place b (λ (d : Did). d.reply ≡ []) refl refl refl))

pub contract-empty : (place : ℕ) (row row' : List Pulse) (b b' : Board) (r : Done) → Ends (empty_call place (length row) b) b' r
    → row' ≡ row_emptied place b row → (hs : Halves) (rooms : List ℕ)
    → box_call (held b hs rooms row) (calls.other (box.empty place)) ≡ step_of b' hs rooms row' r (calls.did (read_of r []))
unfolding empty_call place_emptied
contract-empty place row row' b b' r p e hs rooms =
    rw (
      p.gives,
      p.board,
      e,
      unread (place_emptied (length row) place b)
          (place-cases emptied_at (length row) place b (λ (d : Did). d.reply ≡ []) refl refl refl),
    )

-- of bytes: board, halves, rooms, row and reply buffer, before the call and after it
pub contract-bytes : (c : ℕ) (piece : List ℕ) (b b' : Board) (hs hs' : Halves) (rooms rooms' : List ℕ) (row row' : List Pulse) (o o' : List ℕ) (r : Done)
    → Answers (bytes_call c piece (length o) (length row) b hs rooms) b' o o' r
    → hs' ≡ halves_after c piece (length o) (length row) b hs rooms → rooms' ≡ rooms_after c piece (length o) (length row) b hs rooms
    → row' ≡ row_after b (bytes_call c piece (length o) (length row) b hs rooms).did.board row
    → box_call (held b hs rooms row) (calls.bytes c (length o) piece) ≡ step_of b' hs' rooms' row' r (saying (read_of r o'))
contract-bytes c piece b b' hs hs' rooms rooms' row row' o o' r p halved roomed queued =
    rw (
      read_back (bytes_call c piece (length o) (length row) b hs rooms) b' o o' r p (bytes-fits c (length row) piece b hs rooms o),
      p.gives,
      p.board,
      halved,
      roomed,
      queued,
    )
