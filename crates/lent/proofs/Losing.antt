-- Pulses of a row lose the relays of a place's module, one after the other: what one more makes of the row, and how long it is.
use mathlib.Core.Path.{◌≡◌, refl, ap, ◌∙◌}
use mathlib.Core.List.{List}
use Prim.Native.Nat.{ℕ, zero, suc, ◌+◌, ◌≤◌}
use native.Mathlib.Numerals.{add-one}
use native.Mathlib.Omega.{arith}
use lib.ListN.{length, set, length-set}
use Rattle.records.specs.declared.Queue.{Queue}
use Rattle.ring.specs.declared.Pulse.{Pulse}
use Rattle.ring.specs.Ring.{pulse_at, place as place_in}
use Rattle.filling.specs.Filling.{lost, row_without}

-- the record that stands at i loses them: what is read, what is made of it, and what is stored
pub lost-at : (place : ℕ) (row row' : List Pulse) (i : ℕ) (p l : Pulse) → p ≡ pulse_at row i → l ≡ lost place p → row' ≡ set row i l
    → row' ≡ set row i (lost place (pulse_at row i))
lost-at place row row' i p l at_p at-l stored = stored ∙ ap (set row i) (at-l ∙ ap (lost place) at_p)

-- after k of them the one at the k-th place does
pub next-lost : (place : ℕ) (q : Queue) (row row' : List Pulse) (k i : ℕ) → i ≡ place_in q k
    → row' ≡ set (row_without place q k row) i (lost place (pulse_at (row_without place q k row) i)) → row' ≡ row_without place q (k + 1) row
unfolding row_without
next-lost place q row row' k i at_i stored =
    rw add-one
    (stored ∙ ap (λ (j : ℕ). set (row_without place q k row) j (lost place (pulse_at (row_without place q k row) j))) at_i)

-- n have lost them, where no less and no more have
pub all-lost : (place : ℕ) (q : Queue) (row : List Pulse) (k n : ℕ) → k ≤ n → n ≤ k → row_without place q k row ≡ row_without place q n row
all-lost place q row k n most least = ap (λ (m : ℕ). row_without place q m row) {x = k} {y = n} (omega (arith, most, least))

-- the row keeps its length
pub length_without : (place : ℕ) (q : Queue) (row : List Pulse) (k : ℕ) → length (row_without place q k row) ≡ length row
unfolding row_without
length_without place q row zero = refl
length_without place q row (suc k) = length-set (row_without place q k row) _ _ ∙ length_without place q row k
