-- A relay of a block, and a deck of them.
use mathlib.Core.Path.{◌≡◌, sym, ap, fun_ext, ◌∙◌}
use mathlib.Core.Bool.{Bool, true, false, cond}
use mathlib.Core.List.{List, []}
use Prim.Native.Nat.{ℕ, ◌+◌, ◌/◌, ◌%◌, ◌^◌, ◌<◌}
use native.Mathlib.Nat.{div-eq_of_lt, zero-add, zero-div}
use native.Mathlib.Omega.{arith}
use lib.Dec.{eqb}
use lib.ListN.{set}
use lib.Pow.{shr-shr}
use lib.Seq.{set-get_or}
use Rattle.laws.specs.Bits.{bit_of}
use Rattle.laws.specs.Each.{any_below}
use Rattle.laws.proofs.Each.{none_of}
use Rattle.records.specs.Records.{relay_in, blank_relay}
use Rattle.records.specs.Held.{switched}
use Rattle.rows.specs.Places.{Board, is_relay, row_at, relay_at, put_relay, on_rows, first_relay, relay_place}
use Rattle.rows.proofs.Channel.{relay}
use Rattle.rows.proofs.Range.{Ranging, row-waits, beyond, none-moved}
use Rattle.changes.proofs.Making.{differ_same}
use Rattle.blocks.specs.Blocks.{masked, moves, blocked_row}

-- relay n + 1, which takes a state if it is chosen, as its row
pub masked_row : (mask state k n : ℕ) (b b' : Board) (x y : Bool) → n < 16 → x ≡ bit_of mask k → y ≡ bit_of state k
    → b' ≡ cond x (put_relay (n + 1) (switched y (relay_at (n + 1) b)) b) b → b' ≡ set b (relay_place (n + 1))
    (blocked_row mask state k (row_at (relay_place (n + 1)) b))
unfolding put_relay relay_at blocked_row
masked_row mask state k n b b' true y h p q e = e ∙ rw (sym p, q, relay n h)
masked_row mask state k n b b' false y h p q e = e ∙ rw (sym p) (sym (set-get_or b (relay_place (n + 1)) []))

-- its turn has not come before
pub relay-waits : {from n : ℕ} {f : ℕ → List ℕ → List ℕ} {b₀ b : Board} {turn : ℕ} (k : ℕ) → k + first_relay ≡ from + turn → Ranging from n f b₀ b turn
    → relay_at (k + 1) b ≡ relay_at (k + 1) b₀
unfolding relay_at
relay-waits k e m = ap (λ (row : List ℕ). cond (is_relay (k + 1)) (relay_in row) blank_relay) (row-waits (relay_place (k + 1)) (omega (arith, e)) m)

-- the bits above the lowest eight
above : (m k : ℕ) → bit_of (m / 256) k ≡ bit_of m (8 + k)
above m k = ap (λ (x : ℕ). eqb (x % 2) 1) (shr-shr m 8 k)

-- a byte has none
none_above : (m k : ℕ) → m < 256 → bit_of m (8 + k) ≡ false
none_above m k h = sym (above m k) ∙ rw (div-eq_of_lt h, zero-div (2 ^ k))

module _ (mask state : ℕ) where
  pub rows_above : blocked_row (mask / 256) (state / 256) ≡ (λ (k : ℕ). blocked_row mask state (8 + k))
  unfolding blocked_row
  rows_above = fun_ext (λ k. fun_ext (λ row. rw (above mask k, above state k)))

  module _ (b : Board) where
    pub moves-above : any_below 8 (λ k. moves (mask / 256) (state / 256) k (relay_at (8 + k + 1) b))
        ≡ any_below 8 (λ k. moves mask state (8 + k) (relay_at (8 + k + 1) b))
    moves-above = ap (any_below 8) (fun_ext (λ k. rw (above mask k, above state k)))

    -- a mask of a byte reaches nothing there
    pub none-reached : mask < 256 → on_rows (8 + first_relay) 8 (λ k. blocked_row mask state (8 + k)) b ≡ b
    unfolding blocked_row
    none-reached h = none-moved (8 + first_relay) 8 (λ k. blocked_row mask state (8 + k)) b (λ k row. rw (none_above mask k h))

    pub none_moves : mask < 256 → any_below 8 (λ k. moves mask state (8 + k) (relay_at (8 + k + 1) b)) ≡ false
    unfolding masked
    none_moves h = none_of 8 (λ k. moves mask state (8 + k) (relay_at (8 + k + 1) b))
        (λ k l. rw (none_above mask k h) (differ_same (relay_at (8 + k + 1) b).closed))

    -- the first deck's relays leave the second's alone
    outer-waits : (k : ℕ) → relay_at (8 + k + 1) (on_rows first_relay 8 (blocked_row mask state) b) ≡ relay_at (8 + k + 1) b
    unfolding relay_at
    outer-waits k =
        ap (λ (row : List ℕ). cond (is_relay (8 + k + 1)) (relay_in row) blank_relay)
        (beyond first_relay 8 (relay_place (8 + k + 1)) (blocked_row mask state) b (omega arith))

    pub outer-asked : any_below 8 (λ k. moves mask state (8 + k) (relay_at (8 + k + 1) (on_rows first_relay 8 (blocked_row mask state) b)))
        ≡ any_below 8 (λ k. moves mask state (8 + k) (relay_at (8 + k + 1) b))
    outer-asked = ap (any_below 8) (fun_ext (λ k. rw (outer-waits k)))

    -- the first deck's are counted from 0 on
    pub inner-asked : any_below 8 (λ k. moves mask state k (relay_at (0 + k + 1) b)) ≡ any_below 8 (λ k. moves mask state k (relay_at (k + 1) b))
    inner-asked = ap (any_below 8) (fun_ext (λ k. rw (zero-add k)))
