-- The relays of the second deck that are there.
--     outputs-count   four for each module;   outputs-few   eight at most
--     deck-place      a relay of the deck by its place
--     rows-present    a row of bytes for each of them is one for each of the deck, none for one that is not there
use mathlib.Core.Path.{◌≡◌, refl}
use mathlib.Core.Bool.{Bool, true, false, cond}
use mathlib.Core.List.{List, [], ◌∷◌}
use Prim.Native.Nat.{ℕ, ◌+◌, ◌≤◌, ◌<◌}
use native.Mathlib.Omega.{arith}
use lib.ListN.{length, get_or}
use Rattle.laws.specs.Put.{rows}
use Rattle.laws.proofs.Channels.{places}
use Rattle.laws.proofs.Tests.{by_cases}
use Rattle.rows.specs.Places.{Board}
use Rattle.modules.specs.Modules.{filled, present, present_of, second_deck, outputs}

pub outputs-count : (b : Board) → length (outputs b) ≡ cond (filled 1 b) 4 0 + cond (filled 2 b) 4 0
unfolding present present_of
outputs-count b =
    by_cases (filled 1 b)
    (λ one. by_cases (filled 2 b) (λ two. rw (one, two)) (λ two. rw (one, two)))
    (λ one. by_cases (filled 2 b) (λ two. rw (one, two)) (λ two. rw (one, two)))

pub outputs-few : (b : Board) → length (outputs b) ≤ 8
outputs-few b = rw (outputs-count b) (omega (arith, four (filled 1 b), four (filled 2 b)))
  where
    four : (t : Bool) → cond t 4 0 ≤ 4
    four true = omega arith
    four false = omega arith

pub rows-present : (f : ℕ → List ℕ) (b : Board) (ks : List ℕ) → rows f (present_of b ks) ≡ rows (λ k. cond (present k b) (f k) []) ks
unfolding rows present_of
rows-present f b [] = refl
rows-present f b (k ∷ ks) = by_cases (present k b) (λ t. rw (t, ← rows-present f b ks)) (λ n. rw (n, ← rows-present f b ks))

-- a relay of the second deck by its place, as a loop reads it
pub deck-place : (k : ℕ) → k < 8 → 9 + k ≡ get_or second_deck k 0
deck-place = places (λ k. 9 + k ≡ get_or second_deck k 0) refl refl refl refl refl refl refl refl
