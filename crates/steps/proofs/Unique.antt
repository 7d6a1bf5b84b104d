-- For one input, two answers that a contract allows are equal.
use mathlib.Core.Path.{◌≡◌, sym, ◌∙◌}
use Rattle.steps.proofs.Half.step.Reads as step
use Rattle.steps.proofs.Outcome.half.Reads as half
use Rattle.steps.proofs.header.Reads as header

pub unique-step : (κs : _) (a : _) (r r' : _) (s s' : _) → step.Post κs a r s → step.Post κs a r' s' → r ≡ r'
unique-step κs a r r' s s' p q = p ∙ sym q

pub unique-half : (κs : _) (a : _) (r r' : _) (s s' : _) → half.Post κs a r s → half.Post κs a r' s' → r ≡ r'
unique-half κs a r r' s s' p q = p ∙ sym q

pub unique-header : (κs : _) (a : _) (r r' : _) (s s' : _) → header.Post κs a r s → header.Post κs a r' s' → r ≡ r'
unique-header κs a r r' s s' p q = p ∙ sym q
