-- What a beginning and an end do to the relays.
--     begins      02, M-100, 2: at a beginning each masked relay takes the pulse's state; its usage and setpoint stay
--     returns     02, M-100, 3: at an end each masked relay returns to the state that it had before the beginning, whatever it has now
--     unmasked    02, M-100, 3: the row of a relay that is not masked keeps every word, at a beginning and at an end
--     elsewhere   02, M-100, 3: and so do the rows of the inputs;   clock-kept   and the clock's
use mathlib.Core.Path.{◌≡◌, refl, ap, ◌∙◌}
use mathlib.Core.Bool.{true, false}
use mathlib.Core.List.{List, [], ◌∷◌}
use Prim.Native.Nat.{ℕ, zero, suc, ◌+◌, ◌%◌, ◌^◌, ◌<◌, ◌≤◌}
use native.Mathlib.Nat.{mod-eq_of_lt}
use native.Mathlib.Omega.{arith}
use native.Mathlib.Numerals.{add-one}
use lib.ListN.{length, length-set}
use lib.Seq.{get_or-set_other}
use Rattle.laws.proofs.Tests.{by_cases}
use Rattle.records.specs.declared.Queue.{Queue}
use Rattle.records.specs.Records.{relay_in, relay_words}
use Rattle.rows.specs.Places.{Board, row_at, relay_at, first_relay, relay_place, clock_row, first_line, queue_row, queue_of, put_queue, on_rows}
use Rattle.rows.proofs.Channel.{relay}
use Rattle.rows.proofs.Range.{within, beyond}
use Rattle.records.proofs.Views.{relay-again}
use Rattle.records.specs.Held as held
use Rattle.laws.specs.Bits.{bit_of}
use Rattle.blocks.specs.Blocks.{blocked_row, block_of}
use Rattle.modules.specs.declared.Moved.{Moved}
use Rattle.modules.specs.Modules.{has_module}
use Rattle.marks.specs.Marks.{marked_row, any_moved, marked}
use Rattle.ring.specs.declared.Pulse.{Pulse}
use Rattle.pulses.specs.Pulses.{states_of, switched, beginning, begun, ended}
use Rattle.ring.specs.Ring.{popped}
use Rattle.pulses.proofs.Bits.{states-small, states-bit}

-- ---- rows that are changed, and the others

pub rows-length : (from n : ℕ) (f : ℕ → List ℕ → List ℕ) (b : Board) → length (on_rows from n f b) ≡ length b
unfolding on_rows
rows-length from n f [] = refl
rows-length zero zero f (row ∷ b) = refl
rows-length zero (suc n) f (row ∷ b) = ap suc (rows-length zero n (λ k. f (suc k)) b)
rows-length (suc from) n f (row ∷ b) = ap suc (rows-length from n f b)

pub before : (from n j : ℕ) (f : ℕ → List ℕ → List ℕ) (b : Board) → j < from → row_at j (on_rows from n f b) ≡ row_at j b
unfolding on_rows
before from n j f [] h = refl
before zero n j f (row ∷ b) h = absurd (omega arith)
before (suc from) n zero f (row ∷ b) h = refl
before (suc from) n (suc j) f (row ∷ b) h = before from n j f b (omega arith)

pub among : (from n j : ℕ) (f : ℕ → List ℕ → List ℕ) (b : Board) → j < n → from + j < length b → row_at (from + j) (on_rows from n f b) ≡ f j (row_at (from + j) b)
unfolding on_rows
among from n j f [] h l = absurd (omega arith)
among zero n j f (row ∷ b) h l = let z : 0 + j ≡ j = omega arith in rw z (within n j f (row ∷ b) h (omega arith))
among (suc from) n j f (row ∷ b) h l = let e : suc from + j ≡ suc (from + j) = omega arith in rw e (among from n j f b h (omega arith))

-- a row that is left as it is
kept-first : (n j : ℕ) (f : ℕ → List ℕ → List ℕ) (b : Board) → ((row : List ℕ) → f j row ≡ row) → row_at j (on_rows 0 n f b) ≡ row_at j b
unfolding on_rows
kept-first n j f [] s = refl
kept-first zero j f (row ∷ b) s = refl
kept-first (suc n) zero f (row ∷ b) s = s row
kept-first (suc n) (suc j) f (row ∷ b) s = kept-first n j (λ k. f (suc k)) b s

pub kept : (from n j : ℕ) (f : ℕ → List ℕ → List ℕ) (b : Board) → ((row : List ℕ) → f j row ≡ row) → row_at (from + j) (on_rows from n f b) ≡ row_at (from + j) b
unfolding on_rows
kept from n j f [] s = refl
kept zero n j f (row ∷ b) s = let z : 0 + j ≡ j = omega arith in rw z (kept-first n j f (row ∷ b) s)
kept (suc from) n j f (row ∷ b) s = let e : suc from + j ≡ suc (from + j) = omega arith in rw e (kept from n j f b s)

-- ---- a switching

pub seat : (k : ℕ) → relay_place (k + 1) ≡ first_relay + k
seat k = omega arith

pub relay-of : (k : ℕ) → k < 16 → (b : Board) → relay_at (k + 1) b ≡ relay_in (row_at (relay_place (k + 1)) b)
unfolding relay_at
relay-of k h b = rw (relay k h)

-- the marks are not in the relays' rows, nor in any before the connections'
pub before-lines : (moved : Moved) (j : ℕ) (b : Board) → j < first_line → row_at j (marked moved b) ≡ row_at j b
unfolding marked
before-lines moved j b h = by_cases (any_moved moved) (λ t. rw t (before first_line 4 j (λ _. marked_row moved.inner (has_module b)) b h)) (λ f. rw f)

-- and neither is the queue
before-queue : (q : Queue) (j : ℕ) (b : Board) → j < queue_row → row_at j (put_queue q b) ≡ row_at j b
unfolding put_queue
before-queue q j b h = get_or-set_other b queue_row j _ [] (λ e. omega arith)

module _ (mask states : ℕ) (b : Board) where
  switched-row : (j : ℕ) → j < first_line → row_at j (switched mask states b) ≡ row_at j (on_rows first_relay 16 (blocked_row mask states) b)
  unfolding switched block_of
  switched-row j h = before-lines _ j (on_rows first_relay 16 (blocked_row mask states) b) h

  -- a relay that is masked
  masked_row : (k : ℕ) → k < 16 → clock_row ≤ length b → bit_of mask k ≡ true
      → row_at (relay_place (k + 1)) (switched mask states b) ≡ relay_words (row_at (relay_place (k + 1)) b) (held.switched (bit_of states k) (relay_at (k + 1) b))
  unfolding relay_at blocked_row
  masked_row k h l m =
      rw (relay k h, seat k)
      (switched-row (first_relay + k) (omega arith) ∙ among first_relay 16 k (blocked_row mask states) b h (omega arith) ∙ rw m)

  pub switched-masked : (k : ℕ) → k < 16 → clock_row ≤ length b → bit_of mask k ≡ true
      → relay_at (k + 1) (switched mask states b) ≡ held.switched (bit_of states k) (relay_at (k + 1) b)
  switched-masked k h l m =
      relay-of k h (switched mask states b) ∙ ap relay_in (masked_row k h l m)
      ∙ relay-again (row_at (relay_place (k + 1)) b) (held.switched (bit_of states k) (relay_at (k + 1) b))

  -- one that is not
  pub switched-unmasked : (k : ℕ) → k < 16 → bit_of mask k ≡ false → row_at (relay_place (k + 1)) (switched mask states b) ≡ row_at (relay_place (k + 1)) b
  unfolding blocked_row
  switched-unmasked k h m =
      rw (seat k) (switched-row (first_relay + k) (omega arith) ∙ kept first_relay 16 k (blocked_row mask states) b (λ row. rw m))

  -- a row that is no relay's and no connection's
  switched-elsewhere : (j : ℕ) → j < first_relay → row_at j (switched mask states b) ≡ row_at j b
  switched-elsewhere j h = switched-row j (omega arith) ∙ before first_relay 16 j (blocked_row mask states) b h

  switched-clock : row_at clock_row (switched mask states b) ≡ row_at clock_row b
  switched-clock = switched-row clock_row (omega arith) ∙ beyond first_relay 16 clock_row (blocked_row mask states) b (omega arith)

-- the relays of a board whose queue alone is another
pub relay-put : (q : Queue) (k : ℕ) (b : Board) → k < 16 → relay_at (k + 1) (put_queue q b) ≡ relay_at (k + 1) b
unfolding relay_at
relay-put q k b h = rw (before-queue q (relay_place (k + 1)) b (omega arith))

pub put-length : (q : Queue) (b : Board) → length (put_queue q b) ≡ length b
unfolding put_queue
put-length q b = length-set b queue_row _

-- none of these changes how many rows there are
marked-length : (moved : Moved) (b : Board) → length (marked moved b) ≡ length b
unfolding marked
marked-length moved b = by_cases (any_moved moved) (λ t. rw t (rows-length first_line 4 (λ _. marked_row moved.inner (has_module b)) b)) (λ f. rw f)

switched-length : (mask states : ℕ) (b : Board) → length (switched mask states b) ≡ length b
unfolding switched block_of
switched-length mask states b = marked-length _ (on_rows first_relay 16 (blocked_row mask states) b) ∙ rows-length first_relay 16 (blocked_row mask states) b

pub begun-length : (p : Pulse) (b : Board) → length (begun p b) ≡ length b
unfolding begun
begun-length p b = switched-length _ _ (put_queue (beginning p (states_of b) (queue_of b)) b) ∙ put-length (beginning p (states_of b) (queue_of b)) b

pub ended-length : (p : Pulse) (b : Board) → length (ended p b) ≡ length b
unfolding ended
ended-length p b = switched-length _ _ (put_queue (popped (queue_of b)) b) ∙ put-length (popped (queue_of b)) b

-- ---- a beginning and an end

module _ (p : Pulse) (b : Board) (k : ℕ) (h : k < 16) where
  pub begins : clock_row ≤ length b → bit_of p.mask k ≡ true → relay_at (k + 1) (begun p b) ≡ held.switched (bit_of p.states k) (relay_at (k + 1) b)
  unfolding begun
  begins l m =
      let q : Queue = beginning p (states_of b) (queue_of b) in
      switched-masked p.mask p.states (put_queue q b) k h (rw (put-length q b) l) m ∙ rw (relay-put q k b h)

  -- its row has its words
  pub begins-row : clock_row ≤ length b → bit_of p.mask k ≡ true → 6 ≤ length (row_at (relay_place (k + 1)) (begun p b))
  unfolding begun
  begins-row l m =
      let q : Queue = beginning p (states_of b) (queue_of b) in
      rw (masked_row p.mask p.states (put_queue q b) k h (rw (put-length q b) l) m) (omega arith)

  -- z is any board in which what the beginning remembered is still there
  pub returns : (z : Board) → clock_row ≤ length z → (queue_of z).remembered ≡ states_of b → bit_of p.mask k ≡ true
      → relay_at (k + 1) (ended p z) ≡ held.switched (relay_at (k + 1) b).closed (relay_at (k + 1) z)
  unfolding ended
  returns z l e m =
      let q : Queue = popped (queue_of z) in
      let small : states_of b % 2 ^ 16 ≡ states_of b = mod-eq_of_lt (omega (arith, states-small 16 b)) in
      let bit : bit_of ((queue_of z).remembered % 2 ^ 16) k ≡ (relay_at (k + 1) b).closed = rw (e, small, add-one) (states-bit 16 k b h) in
      switched-masked p.mask ((queue_of z).remembered % 2 ^ 16) (put_queue q z) k h (rw (put-length q z) l) m ∙ rw (relay-put q k z h, bit)

  pub unmasked : bit_of p.mask k ≡ false
      → (row_at (relay_place (k + 1)) (begun p b) ≡ row_at (relay_place (k + 1)) b) × (row_at (relay_place (k + 1)) (ended p b) ≡ row_at (relay_place (k + 1)) b)
  unfolding begun ended
  unmasked m = (
    switched-unmasked _ _ _ k h m ∙ before-queue _ (relay_place (k + 1)) b (omega arith),
    switched-unmasked _ _ _ k h m ∙ before-queue _ (relay_place (k + 1)) b (omega arith),
  )

pub elsewhere : (p : Pulse) (b : Board) (j : ℕ) → j < first_relay → (row_at j (begun p b) ≡ row_at j b) × (row_at j (ended p b) ≡ row_at j b)
unfolding begun ended
elsewhere p b j h = (
  switched-elsewhere _ _ _ j h ∙ before-queue _ j b (omega arith),
  switched-elsewhere _ _ _ j h ∙ before-queue _ j b (omega arith),
)

pub clock-kept : (p : Pulse) (b : Board) → (row_at clock_row (begun p b) ≡ row_at clock_row b) × (row_at clock_row (ended p b) ≡ row_at clock_row b)
unfolding begun ended
clock-kept p b = (
  switched-clock _ _ _ ∙ before-queue _ clock_row b (omega arith),
  switched-clock _ _ _ ∙ before-queue _ clock_row b (omega arith),
)
