-- What a test of a place tells.
use mathlib.Core.Path.{◌≡◌, sym, ◌∙◌}
use mathlib.Core.Bool.{Bool, true}
use Prim.Native.Nat.{ℕ, ◌≤◌}
use Rattle.laws.proofs.Tests.{within}
use Rattle.modules.specs.Modules.{is_place}

-- a place, as `is_place` tells it, is one or two
pub place-range : (p : ℕ) {told : Bool} → told ≡ is_place p → told ≡ true → (1 ≤ p) × (p ≤ 2)
place-range p {told} e h = within 1 2 p (sym e ∙ h)
