-- The rows and the clock behind a loop that lets time pass.
--     rows-passed   the rows that the loop has grown, and the clock stored behind it, are the board after that time
use mathlib.Core.Path.{◌≡◌, ap}
use mathlib.Core.List.{◌++◌, map}
use Prim.Native.Nat.{ℕ, ◌+◌, ◌-◌, ◌^◌, ◌<◌, ◌≤◌, min}
use native.Mathlib.Omega.{arith}
use lib.ListN.{length, take, drop}
use Rattle.rows.specs.Places.{Board, clock_of, clock_set, first_outer}
use Rattle.rows.proofs.Range.{rows-looped}
use Rattle.tables.specs.Time.{grown, usage_passed, passed}

grown-saturates : (x d : ℕ) → x < 2 ^ 64 → min (x + d) (2 ^ 64 - 1) ≡ grown x d
grown-saturates x d h = omega (arith, h)

-- b is the board whose rows the loop has; now is its clock, which w ms more make t
module _ {b₀ b items : Board} {d k now w t : ℕ} where
  pub rows-passed : b ≡ b₀ → length (take first_outer b) ≤ k → items ≡ map (usage_passed d) (take k (take first_outer b)) ++ drop k (take first_outer b)
      → now ≡ clock_of b₀ → now < 2 ^ 64 → w ≡ d → t ≡ min (now + w) (2 ^ 64 - 1) → clock_set t (items ++ drop first_outer b) ≡ passed d b₀
  unfolding passed
  rows-passed v l e m h f q =
      rw (q, grown-saturates now w h, m, f) (ap (clock_set (grown (clock_of b₀) d)) (rows-looped 0 first_outer (usage_passed d) v l e))
