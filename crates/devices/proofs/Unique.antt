-- For one input, two answers that a contract allows are equal.
use mathlib.Core.Path.{◌≡◌, sym, ◌∙◌}
use Rattle.devices.proofs.Device.from_id.Reads as from-id
use Rattle.devices.proofs.Device.id.Reads as id

pub unique-from-id : (κs : _) (a : _) (r r' : _) (s s' : _) → from-id.Post κs a r s → from-id.Post κs a r' s' → r ≡ r'
unique-from-id κs a r r' s s' p q = p ∙ sym q

pub unique-id : (κs : _) (a : _) (r r' : _) (s s' : _) → id.Post κs a r s → id.Post κs a r' s' → r ≡ r'
unique-id κs a r r' s s' p q = p ∙ sym q
