-- The relays' states as bits.
--     states-small   the states of n relays have n bits
--     bit_added      a weight added above a bit leaves it;   bit-top   and is the next bit of what is smaller
--     states-bit     each bit is its relay's state
use mathlib.Core.Path.{◌≡◌, refl, ap, ◌∙◌}
use mathlib.Core.Bool.{Bool, true, false, cond}
use Prim.Native.Nat.{ℕ, zero, suc, ◌+◌, ◌-◌, ◌*◌, ◌/◌, ◌%◌, ◌^◌, ◌<◌, ◌≤◌, zero-le}
use native.Mathlib.Nat.{pow-suc, le_antisymm, div-eq_of_lt, add-div_right, add-mul-div_right, add-mul-mod_self_right}
use native.Mathlib.Omega.{arith}
use native.Mathlib.Numerals.{add-one}
use lib.Dec.{lit<, eqb, ltb}
use lib.Pow.{pow_pos, pow-add, pow_mono}
use borrow.Author.Tests.{ltb-true, ltb-false}
use mir.Val.{bool_byte}
use Rattle.laws.proofs.Tests.{by_cases}
use Rattle.rows.specs.Places.{Board, relay_at}
use Rattle.laws.specs.Bits.{bit_of}
use Rattle.ring.proofs.Weight.{weight}
use Rattle.pulses.specs.Pulses.{states_below, states_of}

one_more : (n s : ℕ) (closed : Bool) → s < 2 ^ n → s + cond closed (2 ^ n) 0 < 2 ^ suc n
one_more n s true h = omega (arith, pow-suc 2 n)
one_more n s false h = omega (arith, pow-suc 2 n)

pub states-small : (n : ℕ) (b : Board) → states_below n b < 2 ^ n
unfolding states_below
states-small zero b = lit< tt
states-small (suc n) b = one_more n (states_below n b) (relay_at (suc n) b).closed (states-small n b)

-- ---- each bit

-- what is added above bit k leaves it
bit-under : (s k j : ℕ) → bit_of (s + 2 ^ (suc j + k)) k ≡ bit_of s k
bit-under s k j =
    let whole : (s + 2 ^ (suc j + k)) / 2 ^ k ≡ s / 2 ^ k + 2 ^ j * 2 =
    rw (pow-add 2 (suc j) k, pow-suc 2 j) (add-mul-div_right s (2 ^ j * 2) (pow_pos k)) in
    ap (λ (x : ℕ). eqb (x % 2) 1) whole ∙ ap (λ (x : ℕ). eqb x 1) (add-mul-mod_self_right (s / 2 ^ k) (2 ^ j) 2)

pub bit_added : (n s k : ℕ) (closed : Bool) → k < n → bit_of (s + cond closed (2 ^ n) 0) k ≡ bit_of s k
bit_added n s k true h =
    let m : n ≡ suc (n - suc k) + k = omega arith in
    ap (λ (i : ℕ). bit_of (s + 2 ^ i) k) m ∙ bit-under s k (n - suc k)
bit_added n s k false h = let e : s + 0 ≡ s = omega arith in rw e

pub bit-top : (n s : ℕ) (closed : Bool) → s < 2 ^ n → bit_of (s + cond closed (2 ^ n) 0) n ≡ closed
bit-top n s true h =
    let e : (s + 2 ^ n) / 2 ^ n ≡ 1 = add-div_right s (pow_pos n) ∙ rw (div-eq_of_lt h) in
    ap (λ (x : ℕ). eqb (x % 2) 1) e
bit-top n s false h =
    let e : (s + 0) / 2 ^ n ≡ 0 = let z : s + 0 ≡ s = omega arith in rw z (div-eq_of_lt h) in
    ap (λ (x : ℕ). eqb (x % 2) 1) e

pub states-bit : (n k : ℕ) (b : Board) → k < n → bit_of (states_below n b) k ≡ (relay_at (suc k) b).closed
unfolding states_below
states-bit zero k b h = absurd (omega arith)
states-bit (suc n) k b h =
    by_cases (ltb k n)
    (λ t. let l = ltb-true k n t in bit_added n (states_below n b) k (relay_at (suc n) b).closed l ∙ states-bit n k b l)
    (λ f. let e : k ≡ n = omega (arith, ltb-false k n f) in
    rw e (bit-top n (states_below n b) (relay_at (suc n) b).closed (states-small n b)))

-- ---- the loop that puts them together: k relays are in

pub record Joining (b : Board) (states k : ℕ) : Type 0 where
  pub in-range : k ≤ 16
  pub so-far : states ≡ states_below k b

-- a relay's state, shifted to its bit
pub weighed : (k : ℕ) (closed : Bool) → k < 16 → bool_byte closed * 2 ^ k % 2 ^ 64 ≡ cond closed (2 ^ k) 0
weighed k true h = weight k 64 (omega arith)
weighed k false h = search arith

weight-fits : (k s : ℕ) (closed : Bool) → k < 16 → s < 2 ^ k → s + cond closed (2 ^ k) 0 < 2 ^ 64
weight-fits k s true h l = omega (arith, pow_mono {i = k} {j = 16} (omega arith))
weight-fits k s false h l = omega (arith, pow_mono {i = k} {j = 16} (omega arith))

module _ {b : Board} where
  pub join-start : Joining b 0 0
  unfolding states_below
  join-start = record { in-range = zero-le; so-far = refl }

  pub join-fits : {states k : ℕ} (closed : Bool) → Joining b states k → k < 16 → states + cond closed (2 ^ k) 0 < 2 ^ 64
  join-fits {states} {k} closed m h = weight-fits k states closed h (rw m.so-far (states-small k b))

  pub join-turn : {states k : ℕ} → Joining b states k → k < 16 → Joining b (states + cond (relay_at (k + 1) b).closed (2 ^ k) 0) (k + 1)
  unfolding states_below
  join-turn {states} {k} m h = record { in-range = omega arith; so-far = rw (add-one, ← m.so-far) }

  pub join-done : {states k : ℕ} → Joining b states k → 16 ≤ k → states ≡ states_of b
  join-done m h = m.so-far ∙ ap (λ (n : ℕ). states_below n b) (le_antisymm m.in-range h)
