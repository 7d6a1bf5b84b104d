-- For one input, the boards that a contract allows after a call are equal.
use mathlib.Core.Path.{◌≡◌, sym, ◌∙◌}
use Rattle.tables.proofs.pass.Reads as pass
use Rattle.tables.proofs.pass_pulsed.Reads as pass-pulsed

pub unique-pass : (κs : _) (a : _) (r r' : _) (s s' : _) → pass.Post κs a r s → pass.Post κs a r' s' → s.0.now ≡ s'.0.now
unique-pass κs a r r' s s' p q = p ∙ sym q

pub unique-pass-pulsed : (κs : _) (a : _) (r r' : _) (s s' : _) → pass-pulsed.Post κs a r s → pass-pulsed.Post κs a r' s' → s.0.now ≡ s'.0.now
unique-pass-pulsed κs a r r' s s' p q = p ∙ sym q
