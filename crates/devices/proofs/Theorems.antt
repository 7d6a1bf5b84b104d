-- What a reader may say aloud of the devices.
--     as-listed       whatever the number, the formula finds the device that the list of 01 and 02 has for it, or none where the list has none
--     ids-listed      the IDs by the formula, of all devices in the order of their listing, are those of that list
--     device-of-id    each device that has an ID is found by it
--     id-of-device    a device that is found has the ID that it was found by
use mathlib.Core.Path.{◌≡◌, refl, sym, ap, ◌∙◌}
use mathlib.Core.Bool.{cond}
use mathlib.Core.List.{List, [], ◌∷◌, ◌++◌, map}
use Prim.Native.Nat.{ℕ, zero, suc, ◌+◌, ◌≤◌, ◌<◌}
use native.Mathlib.Omega.{arith}
use lib.Dec.{eqb}
use borrow.Author.Tests.{eqb-true, eqb-false, ne_eqb, le-leb}
use Rattle.laws.proofs.Tests.{by_cases, within}
use Rattle.devices.specs.declared.Device.{Device}
use Rattle.devices.specs.declared.Device.TheVariants.{Input, Relay}
use Rattle.std.specs.Prelude.{Option, Some, None}
use Rattle.devices.specs.Devices.{inputs, relays, is_one_of, input_id, relay_id, rising, id_of, device_of}
use Rattle.devices.specs.Listed.{listed, listed_for}
use Rattle.devices.proofs.Finding.{unknown, input-found, relay-found, by-id}

-- so many entries of a list, those of a kind of device from number k on
abbrev entries : (ℕ → ℕ) → (ℕ → Device) → ℕ → ℕ → List (ℕ × Device)
entries formula kind k zero = []
entries formula kind k (suc many) = (formula k, kind k) ∷ entries formula kind (suc k) many

abbrev relay_entries : List (ℕ × Device)
relay_entries = entries relay_id Relay 1 relays ++ []

module _ (formula : ℕ → ℕ) (kind : ℕ → Device) (rest : List (ℕ × Device)) where
  -- an ID that none of them has is looked for behind them
  passed : (id k many : ℕ) → ((j : ℕ) → k ≤ j → j < k + many → formula j ≡ id → ⊥)
      → listed_for id (entries formula kind k many ++ rest) ≡ listed_for id rest
  unfolding listed_for
  passed id k zero n = refl
  passed id k (suc many) n =
      rw (ne_eqb (formula k) id (n k (omega arith) (omega arith)))
      (passed id (suc k) many (λ j l h. n j (omega (arith, l)) (omega (arith, h))))

  -- the ID of one of them finds it, where no two have the same
  met : ((i j : ℕ) → formula i ≡ formula j → i ≡ j) → (j k many : ℕ) → k ≤ j → j < k + many
      → listed_for (formula j) (entries formula kind k many ++ rest) ≡ Some (kind j)
  unfolding listed_for
  met one j k zero l h = absurd (omega (arith, l, h))
  met one j k (suc many) l h =
      by_cases (eqb (formula k) (formula j))
      (λ e. rw e (ap (λ (i : ℕ). Some (kind i)) (one k j (eqb-true (formula k) (formula j) e))))
      (λ e. let n : k ≡ j → ⊥ = λ s. eqb-false (formula k) (formula j) e (ap formula s) in
      rw e (met one j (suc k) many (omega (arith, l, n)) (omega (arith, h))))

pub as-listed : (id : ℕ) → device_of id ≡ listed_for id listed
unfolding listed_for
as-listed =
    by-id (λ id. device_of id ≡ listed_for id listed)
    (λ k l m. input-found k l m ∙ sym (met input_id Input relay_entries (λ i j e. omega (arith, e)) k 1 inputs l (omega (arith, m))))
    (λ k l m. relay-found k l m ∙ sym (passed input_id Input relay_entries (relay_id k) 1 inputs (λ j a b e. omega (arith, b, e))
    ∙ met relay_id Relay [] (λ i j e. omega (arith, e)) k 1 relays l (omega (arith, m))))
    (λ id n m. unknown id n m ∙ sym (passed input_id Input relay_entries id 1 inputs (λ j a b. n j a (omega (arith, b)))
    ∙ passed relay_id Relay [] id 1 relays (λ j a b. m j a (omega (arith, b)))))

pub ids-listed : map (λ d. (id_of d, d)) (rising Input 1 inputs ++ rising Relay 1 relays) ≡ listed
unfolding id_of
ids-listed = refl

-- one of so many has its ID
given : (many k id : ℕ) → 1 ≤ k → k ≤ many → cond (is_one_of many k) id 0 ≡ id
given many k id l m = rw (le-leb 1 k l, le-leb k many m)

-- and a number with an ID is one of them
one_of : (many k id : ℕ) → (cond (is_one_of many k) id 0 ≡ 0 → ⊥) → (1 ≤ k) × (k ≤ many)
one_of many k id n = by_cases (is_one_of many k) (within 1 many k) (λ f. absurd (n (rw f)))

pub device-of-id : (d : Device) → (id_of d ≡ 0 → ⊥) → device_of (id_of d) ≡ Some d
unfolding id_of
device-of-id (Input k) n = let w = one_of inputs k (input_id k) n in ap device_of (given inputs k (input_id k) w.0 w.1) ∙ input-found k w.0 w.1
device-of-id (Relay k) n = let w = one_of relays k (relay_id k) n in ap device_of (given relays k (relay_id k) w.0 w.1) ∙ relay-found k w.0 w.1

pub id-of-device : (id : ℕ) (d : Device) → device_of id ≡ Some d → id_of d ≡ id
unfolding id_of
id-of-device =
    by-id (λ id. (d : Device) → device_of id ≡ Some d → id_of d ≡ id)
    (λ k l m d s. ap id_of (same-device (sym s ∙ input-found k l m)) ∙ given inputs k (input_id k) l m)
    (λ k l m d s. ap id_of (same-device (sym s ∙ relay-found k l m)) ∙ given relays k (relay_id k) l m)
    (λ id n m d s. let none : None ≡ Some d = sym (unknown id n m) ∙ s in cc)
  where
    same-device : {d e : Device} → Some d ≡ Some e → d ≡ e
    same-device s = cc
