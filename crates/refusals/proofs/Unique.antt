-- For one input, two answers that a contract allows are equal.
use mathlib.Core.Path.{◌≡◌, sym, ◌∙◌}
use Rattle.refusals.proofs.Refusal.number.Reads as number
use Rattle.refusals.proofs.Refusal.place.Reads as place

pub unique-number : (κs : _) (a : _) (r r' : _) (s s' : _) → number.Post κs a r s → number.Post κs a r' s' → r ≡ r'
unique-number κs a r r' s s' p q = p ∙ sym q

pub unique-place : (κs : _) (a : _) (r r' : _) (s s' : _) → place.Post κs a r s → place.Post κs a r' s' → r ≡ r'
unique-place κs a r r' s s' p q = p ∙ sym q
