-- A number of 16 bits has no bit above the fifteenth.
use Rattle.std.proofs.Common.{rules, ℕ, ◌%◌, ◌^◌, ◌<◌, ◌≤◌, ◌≡◌, nat_lt, false, ap, arith}
use Rattle.std.proofs.Math.Nat.{div-eq_of_lt}
use Rattle.std.proofs.Math.Dec.{eqb}
use Rattle.std.proofs.Math.Pow.{pow_mono}
use Rattle.laws.specs.Bits.{bit_of}

pub none_above : {m k : ℕ} → m < 65536 → 16 ≤ k → nat_lt k 16 ≡ bit_of m k
none_above {m} {k} fits high =
    let small : m < 2 ^ k = omega (arith, fits, pow_mono {i = 16} {j = k} high) in
    let none : bit_of m k ≡ false = ap (λ (x : ℕ). eqb (x % 2) 1) (div-eq_of_lt small) in
    rw none (search (rules))
