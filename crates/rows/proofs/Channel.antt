-- What a test of a channel, or of a relay's number, tells.
use mathlib.Core.Path.{◌≡◌, refl, sym, ◌∙◌}
use mathlib.Core.Bool.{Bool, true}
use Prim.Native.Nat.{ℕ, ◌+◌, ◌≤◌, ◌<◌}
use native.Mathlib.Omega.{arith}
use borrow.Author.Tests.{le-leb}
use Rattle.laws.proofs.Tests.{within}
use Rattle.rows.specs.Places.{is_channel, is_relay}

-- a channel, as `is_channel` tells it, is one of 1 to 8
pub in-range : (k : ℕ) {told : Bool} → told ≡ is_channel k → told ≡ true → (1 ≤ k) × (k ≤ 8)
in-range k {told} e h = within 1 8 k (sym e ∙ h)

-- each of those is one
pub is-channel : (k : ℕ) → 1 ≤ k → k ≤ 8 → is_channel k ≡ true
is-channel k l m = rw (le-leb 1 k l, le-leb k 8 m)

-- and the turns of a loop over the eight of them are channels
pub channel : (k : ℕ) → k < 8 → is_channel (k + 1) ≡ true
channel k h = is-channel (k + 1) (omega arith) (omega arith)

-- a relay's number, as `is_relay` tells it, is one of 1 to 16; each of those is one, and so are the turns of a loop over them
pub relay-range : (k : ℕ) {told : Bool} → told ≡ is_relay k → told ≡ true → (1 ≤ k) × (k ≤ 16)
relay-range k {told} e h = within 1 16 k (sym e ∙ h)

pub is-relay : (k : ℕ) → 1 ≤ k → k ≤ 16 → is_relay k ≡ true
is-relay k l m = rw (le-leb 1 k l, le-leb k 16 m)

pub relay : (k : ℕ) → k < 16 → is_relay (k + 1) ≡ true
relay k h = is-relay (k + 1) (omega arith) (omega arith)

-- a channel is a relay's number
pub channel-relay : (k : ℕ) → is_channel k ≡ true → is_relay k ≡ true
channel-relay k h = let r = in-range k (sym h) refl in is-relay k r.0 (omega (arith, r))
