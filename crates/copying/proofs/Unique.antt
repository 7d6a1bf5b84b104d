-- For one input, two answers that the contract allows are equal, and so is what is left in the lent slice.
use mathlib.Core.Path.{◌≡◌, sym, ◌∙◌}
use Rattle.copying.proofs.copy.Reads as copy

pub unique-copy : (κs : _) (a : _) (r r' : _) (s s' : _) → copy.Post κs a r s → copy.Post κs a r' s' → (r ≡ r') × (s.0.now ≡ s'.0.now)
unique-copy κs a r r' s s' p q = (p.place ∙ sym q.place, p.bytes ∙ sym q.bytes)
