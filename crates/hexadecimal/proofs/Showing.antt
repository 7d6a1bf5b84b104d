-- The relays gathered into a number, from the last to the first.
use mathlib.Core.Path.{◌≡◌, refl, sym, ◌∙◌}
use mathlib.Core.Bool.{Bool, true, false, cond}
use mathlib.Core.List.{◌∷◌}
use Prim.Native.Nat.{ℕ, suc, ◌+◌, ◌-◌, ◌*◌, ◌^◌, ◌≤◌, ◌<◌}
use native.Mathlib.Nat.{pow-suc, pow-le-pow_right}
use native.Mathlib.Omega.{arith}
use lib.Dec.{lit<, ltb}
use borrow.Author.Tests.{ltb-true, ltb-false}
use lib.ListN.{length, get_or, drop}
use lib.Seq.{drop-cons}
use Rattle.laws.proofs.Tests.{by_cases}
use Rattle.laws.proofs.Channels.{places}
use Rattle.records.specs.declared.Relay.{Relay}
use Rattle.records.specs.Records.{blank_relay}
use Rattle.rows.specs.Places.{Board, relay_at}
use Rattle.hexadecimal.specs.Digits.{closed_bit, all_relays, relay_bits}

bit-small : (t : Bool) → cond t 1 0 ≤ 1
bit-small true = omega arith
bit-small false = omega arith

sixteen : (b : Board) → length (all_relays b) ≡ 16
unfolding all_relays
sixteen b = refl

-- a relay by its place
relay-place : (b : Board) (k : ℕ) → k < 16 → relay_at (k + 1) b ≡ get_or (all_relays b) k blank_relay
unfolding all_relays relay_at
relay-place b k h =
    by_cases (ltb k 8)
    (λ t. places (λ k. relay_at (k + 1) b ≡ get_or (all_relays b) k blank_relay) refl refl refl refl refl refl refl refl k (ltb-true k 8 t))
    (λ f. let l = ltb-false k 8 f in
    let z : k - 8 + 8 ≡ k = omega (arith, l) in
    rw z at (places (λ j. relay_at (j + 8 + 1) b ≡ get_or (all_relays b) (j + 8) blank_relay) refl refl refl refl refl refl refl refl (k - 8) (omega (arith, l))))

-- the loop's invariant: the relays behind channel k are gathered
pub record Gathering (b : Board) (v k : ℕ) : Type 0 where
  pub in-range : k ≤ 16
  pub so-far : v ≡ relay_bits (drop k (all_relays b))
  pub small : v < 2 ^ (16 - k)

module _ {b : Board} where
  -- while a relay is left, another bit fits 16
  pub another-fits : {v k : ℕ} → Gathering b v k → 0 < k → v < 32768
  another-fits {v} {k} m h = let l : 16 - k ≤ 15 = omega arith in omega (arith, m.small, pow-le-pow_right {n = 2} (lit< tt) l)

  pub gather-start : Gathering b 0 16
  unfolding relay_bits all_relays
  gather-start = record { in-range = omega arith; so-far = refl; small = omega arith }

  pub gather-turn : {v k x : ℕ} {r : Relay} → Gathering b v k → 0 < k → r ≡ relay_at k b → x ≡ closed_bit r → Gathering b (v * 2 + x) (k - 1)
  unfolding relay_bits
  gather-turn {v} {k} {x} {r} m h place e =
      let s : suc (k - 1) ≡ k = omega arith in
      let z : k - 1 + 1 ≡ k = omega arith in
      let p : r ≡ get_or (all_relays b) (k - 1) blank_relay = place ∙ rw z at (relay-place b (k - 1) (omega (arith, m.in-range))) in
      let i : k - 1 < length (all_relays b) = omega (arith, m.in-range, sixteen b) in
      let d : drop (k - 1) (all_relays b) ≡ r ∷ drop k (all_relays b) = rw (sym p, s) at (drop-cons (all_relays b) (k - 1) blank_relay i) in
      let t : 16 - (k - 1) ≡ suc (16 - k) = omega (arith, m.in-range) in
      let small : closed_bit r ≤ 1 = bit-small r.closed in
      record {
        in-range = omega (arith, m.in-range);
        so-far = rw (d, ← m.so-far, e) (omega arith);
        small = rw t (omega (arith, m.small, small, e, pow-suc 2 (16 - k)));
      }

  pub gather-done : {v k : ℕ} → Gathering b v k → k ≤ 0 → v ≡ relay_bits (all_relays b)
  gather-done {v} {k} m h = let z : k ≡ 0 = omega arith in rw z at m.so-far
