-- For one input, two boards that the contract allows are equal.
use mathlib.Core.Path.{◌≡◌, sym, ◌∙◌}
use Rattle.powerup.proofs.power_up.Reads as power-up

pub unique-power-up : (κs : _) (a : _) (r r' : _) (s s' : _) → power-up.Post κs a r s → power-up.Post κs a r' s' → s.0.now ≡ s'.0.now
unique-power-up κs a r r' s s' p q = p ∙ sym q
