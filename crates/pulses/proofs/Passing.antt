-- A call of time, as a loop: each turn goes to the end of the running pulse.
--     Passing         its invariant: what the ms that are left lead to is what all ms do
--     passing-start, passing-turn
--     has-row, told-again, queue-ended, one-gone, stays-waited   what is there of a queue, and what an end and a wait leave of it
use mathlib.Core.Path.{◌≡◌, refl, sym, ap, ◌∙◌}
use mathlib.Core.Bool.{true, false, true≢false}
use mathlib.Core.List.{List, [], ◌∷◌}
use Prim.Native.Nat.{ℕ, zero, suc, ◌-◌, ◌≤◌, ◌<◌, min}
use native.Mathlib.Omega.{arith}
use lib.Dec.{ltb}
use lib.ListN.{length}
use lib.Seq.{get_or-set_same}
use borrow.Author.Tests.{leb-true, ltb-true, ltb-false}
use Rattle.std.specs.Prelude.{Option, Some, None, Result, Ok, Err}
use Rattle.refusals.specs.declared.Refusal.{Refusal}
use Rattle.refusals.specs.declared.Refusal.TheVariants.{ShortBuffer}
use Rattle.laws.proofs.Tests.{by_cases, and_left, and_right}
use Rattle.records.specs.declared.Queue.{Queue}
use Rattle.records.specs.Records.{queue_in, queue_words}
use Rattle.rows.specs.Places.{Board, row_at, queue_row, queue_of, put_queue}
use Rattle.tables.specs.Time.{passed}
use Rattle.ring.specs.declared.Pulse.{Pulse}
use Rattle.pulses.specs.declared.Ending.{Ending}
use Rattle.pulses.specs.Pulses.{short_row, lasts, ends_within, states_of, beginning, begun, ended, followed, turned, waited, elapsed}
use Rattle.ring.specs.Ring.{pulse_at, place, runs, standing, popped}
use Rattle.pulses.specs.Passing.{onward, start_of, turn_of, Goes}
use Rattle.pulses.proofs.Apart.{queue-passed, queue-switched}
use Rattle.pulses.proofs.Ticks.{left-told, quiet, jump}

-- what is still to be done from board z on
abbrev leads : List Pulse → Option Ending → Board → Board
leads row (Some e) z = elapsed row e.rest z
leads row None z = z

-- the pulse that is to end is the first, it ends within the ms that are left, and these are its place and the next's
pub record Stands (e : Ending) (z : Board) : Type 0 where
  pub within : ends_within e.rest (queue_of z) ≡ true
  pub at_first : e.running ≡ place (queue_of z) 0
  pub at_next : e.next ≡ place (queue_of z) 1

abbrev pub IfEnding : Option Ending → Board → Type 0
IfEnding (Some e) z = Stands e z
IfEnding None z = Unit

pub record Passing (row : List Pulse) (d : ℕ) (b : Board) (ending : Option Ending) (z : Board) : Type 0 where
  pub reaches : leads row ending z ≡ elapsed row d b
  pub stands : IfEnding ending z

-- how a call of time begins: refused, nothing done, or with its first pulse
abbrev pub Started : List Pulse → ℕ → Board → Result (Option Ending) Refusal → Board → Type 0
Started row d b (Err refusal) z = (short_row (length row) ≡ true) × (z ≡ b) × (refusal ≡ ShortBuffer)
Started row d b (Ok ending) z = (short_row (length row) ≡ false) × Passing row d b ending z

-- how many turns there may still be
abbrev pub waiting : Board → ℕ
waiting z = standing (queue_of z)

module _ {row : List Pulse} {d : ℕ} {b : Board} where
  -- ms that are left, from a board on from which they lead to the whole
  on-from : (k : ℕ) (z₀ z : Board) (ending : Option Ending) → elapsed row k z₀ ≡ elapsed row d b → Goes (onward k z₀) z ending
      → Passing row d b ending z
  unfolding onward elapsed
  on-from k z₀ z ending same g =
      by_cases (ends_within k (queue_of z₀))
      (λ e. let z-is = rw e at g.board in
      let ending-is = rw e at g.gives in
      rw (ending-is, z-is) (record { reaches = same; stands = record { within = e; at_first = refl; at_next = refl } }))
      (λ e. let z-is = rw e at g.board in
      let ending-is = rw e at g.gives in
      rw (ending-is, z-is) (record { reaches = sym (quiet row k z₀ e) ∙ same; stands = tt }))

module _ (row : List Pulse) (d : ℕ) (b : Board) where
  pub passing-start : (z : Board) (r : Result (Option Ending) Refusal) → Goes (start_of (length row) d b) z r → Started row d b r z
  unfolding start_of
  passing-start z r g =
      by_cases (short_row (length row))
      (λ s. let z-is = rw s at g.board in
      let r-is = rw s at g.gives in
      rw (r-is, z-is) (s, refl, refl))
      (λ s. let z-is = rw s at g.board in
      let r-is = rw s at g.gives in
      rw (r-is, z-is) (s, on-from d b (onward d b).board (onward d b).rest refl (record { board = refl; gives = refl })))

-- ---- a turn

pub no_row : (n : ℕ) (b : Board) → length b ≤ n → row_at n b ≡ []
no_row n [] h = refl
no_row zero (row ∷ b) h = absurd (omega arith)
no_row (suc n) (row ∷ b) h = no_row n b (omega arith)

-- where a pulse runs the board has the queue's row
pub has-row : (b : Board) → runs (queue_of b) ≡ true → queue_row < length b
unfolding queue_of
has-row b r =
    by_cases (ltb queue_row (length b)) (λ t. ltb-true queue_row (length b) t)
    (λ f. absurd (true≢false (sym (rw (no_row queue_row b (ltb-false queue_row (length b) f)) at r))))

pub told-again : (q : Queue) (b : Board) → queue_row < length b → queue_of (put_queue q b) ≡ q
unfolding queue_of put_queue
told-again q b h = ap queue_in (get_or-set_same b queue_row (queue_words q) [] h)

pub queue-ended : (p : Pulse) (b : Board) → runs (queue_of b) ≡ true → queue_of (ended p b) ≡ popped (queue_of b)
unfolding ended
queue-ended p b r = queue-switched _ _ _ ∙ told-again (popped (queue_of b)) b (has-row b r)

stays-begun : (p : Pulse) (b : Board) → runs (queue_of b) ≡ true → (queue_of (begun p b)).standing ≡ (queue_of b).standing
unfolding begun
stays-begun p b r = ap (λ (q : Queue). q.standing) (queue-switched _ _ _ ∙ told-again (beginning p (states_of b) (queue_of b)) b (has-row b r))

stays-followed : (next : Pulse) (b : Board) → (queue_of (followed next b)).standing ≡ (queue_of b).standing
stays-followed next b = by_cases (runs (queue_of b)) (λ r. rw r (stays-begun next b r)) (λ r. rw r)

-- an end frees a place
pub one-gone : (p next : Pulse) (b : Board) → runs (queue_of b) ≡ true → (queue_of (turned p next b)).standing ≡ waiting b - 1
unfolding turned
one-gone p next b r = stays-followed next (ended p b) ∙ ap (λ (q : Queue). q.standing) (queue-ended p b r)

pub stays-waited : (k : ℕ) (b : Board) → (queue_of (waited k b)).standing ≡ (queue_of b).standing
unfolding waited
stays-waited k b =
    by_cases (runs (queue_of b))
    (λ r. rw (r, ← queue-passed k b) (ap (λ (q : Queue). q.standing) (left-told k (passed k b))))
    (λ r. rw (r, queue-passed k b))

stays-onward : (k : ℕ) (b : Board) → (queue_of (onward k b).board).standing ≡ (queue_of b).standing
unfolding onward
stays-onward k b = by_cases (ends_within k (queue_of b)) (λ e. rw e) (λ e. rw e (stays-waited k b))

-- the ms up to the end are there
just-those : (rest : ℕ) (q : Queue) → ends_within rest q ≡ true → min (lasts q) rest ≡ lasts q
just-those rest q e = let l = leb-true (lasts q) rest (and_right (runs q) _ e) in omega (arith, l)

-- a turn, where the running pulse ends within the ms that are left
turn_is : (p next : Pulse) (rest : ℕ) (z : Board) → ends_within rest (queue_of z) ≡ true
    → turn_of p next rest z ≡ onward (rest - lasts (queue_of z)) (turned p next (passed (lasts (queue_of z)) z))
unfolding turn_of
turn_is p next rest z e = rw (just-those rest (queue_of z) e)

fewer : (k : ℕ) (p next : Pulse) (z : Board) → runs (queue_of z) ≡ true → waiting (onward k (turned p next (passed (lasts (queue_of z)) z))).board < waiting z
fewer k p next z r =
    let ms : ℕ = lasts (queue_of z) in
    let same : queue_of (passed ms z) ≡ queue_of z = queue-passed ms z in
    let n = stays-onward k (turned p next (passed ms z)) ∙ one-gone p next (passed ms z) (rw same r) in
    rw n (rw same (omega (arith, ltb-true 0 (queue_of z).standing r)))

module _ {row : List Pulse} {d : ℕ} {b : Board} where
  pub passing-turn : {z z' : Board} {e : Ending} {ending : Option Ending} → Passing row d b (Some e) z
      → Goes (turn_of (pulse_at row e.running) (pulse_at row e.next) e.rest z) z' ending → Passing row d b ending z' × (waiting z' < waiting z)
  unfolding elapsed
  passing-turn {z} {z'} {e} {ending} m g =
      let q : Queue = queue_of z in
      let w : ends_within e.rest q ≡ true = m.stands.within in
      let h = rw (m.stands.at_first, m.stands.at_next) at (rw (turn_is (pulse_at row e.running) (pulse_at row e.next) e.rest z w) at g) in
      let after : Board = turned (pulse_at row (place q 0)) (pulse_at row (place q 1)) (passed (lasts q) z) in
      let same : elapsed row (e.rest - lasts q) after ≡ elapsed row d b = sym (jump row e.rest z w) ∙ m.reaches in (
        on-from (e.rest - lasts q) after z' ending same h,
        rw h.board (fewer (e.rest - lasts q) (pulse_at row (place q 0)) (pulse_at row (place q 1)) z (and_left (runs q) _ w)),
      )
