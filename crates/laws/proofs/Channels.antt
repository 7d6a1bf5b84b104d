-- The eight channels, one by one: numbered from 1, and by their places from 0.
use mathlib.Core.Path.{◌≡◌}
use Prim.Native.Nat.{ℕ, zero, suc, ◌+◌, ◌-◌, ◌≤◌, ◌<◌}
use native.Mathlib.Omega.{arith}

-- what holds at each of the eight channels holds at every channel
pub channels : (P : ℕ → Type 0) → P 1 → P 2 → P 3 → P 4 → P 5 → P 6 → P 7 → P 8 → (k : ℕ) → 1 ≤ k → k ≤ 8 → P k
channels P a b c d e f g h zero l m = absurd (omega arith)
channels P a b c d e f g h (suc zero) l m = a
channels P a b c d e f g h (suc (suc zero)) l m = b
channels P a b c d e f g h (suc (suc (suc zero))) l m = c
channels P a b c d e f g h (suc (suc (suc (suc zero)))) l m = d
channels P a b c d e f g h (suc (suc (suc (suc (suc zero))))) l m = e
channels P a b c d e f g h (suc (suc (suc (suc (suc (suc zero)))))) l m = f
channels P a b c d e f g h (suc (suc (suc (suc (suc (suc (suc zero))))))) l m = g
channels P a b c d e f g h (suc (suc (suc (suc (suc (suc (suc (suc zero)))))))) l m = h
channels P a b c d e f g h (suc (suc (suc (suc (suc (suc (suc (suc (suc k))))))))) l m = absurd (omega arith)

-- what holds at each of the eight places holds at every place
pub places : (P : ℕ → Type 0) → P 0 → P 1 → P 2 → P 3 → P 4 → P 5 → P 6 → P 7 → (k : ℕ) → k < 8 → P k
places P a b c d e f g h k l =
    let z : k + 1 - 1 ≡ k = omega arith in
    rw z at (channels (λ j. P (j - 1)) a b c d e f g h (k + 1) (omega arith) (omega arith))
