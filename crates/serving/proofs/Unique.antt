-- For one input, two answers that a contract of the crate serving allows are equal, and so is what is left of what was lent.
use mathlib.Core.Path.{◌≡◌}
use Rattle.answers.proofs.Same.{done-same}
use Rattle.serving.proofs.serve.Reads as serve

pub unique-serving-serve : (κs : _) (a : _) (r r' : _) (s s' : _) → serve.Post κs a r s → serve.Post κs a r' s'
    → (r ≡ r') × (s.0.now ≡ s'.0.now) × (s.1.1.1.0.now ≡ s'.1.1.1.0.now)
unique-serving-serve κs a r r' s s' p q = done-same p q
