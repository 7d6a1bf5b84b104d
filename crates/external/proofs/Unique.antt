-- For one input, two answers that the contract allows are equal, and so are the lent bytes after them.
use mathlib.Core.Path.{◌≡◌}
use Rattle.writers.proofs.Sending.{same}
use Rattle.external.proofs.write_external.Reads as external

pub unique-external : (κs : _) (a : _) (r r' : _) (s s' : _) → external.Post κs a r s → external.Post κs a r' s' → (r ≡ r') × (s.0.now ≡ s'.0.now)
unique-external κs a r r' s s' p q = same p q
