-- For one input, two answers that a contract allows are equal, and so are the boards after them.
use mathlib.Core.Path.{◌≡◌, sym, ◌∙◌}
use Rattle.answers.proofs.Same.{given-same}
use Rattle.connections.proofs.is_open.Reads as is_open
use Rattle.connections.proofs.is_strict.Reads as is-strict
use Rattle.connections.proofs.connect.Reads as connect
use Rattle.connections.proofs.close.Reads as close

pub unique-is-open : (κs : _) (a : _) (r r' : _) (s s' : _) → is_open.Post κs a r s → is_open.Post κs a r' s' → r ≡ r'
unique-is-open κs a r r' s s' p q = p ∙ sym q

pub unique-is-strict : (κs : _) (a : _) (r r' : _) (s s' : _) → is-strict.Post κs a r s → is-strict.Post κs a r' s' → r ≡ r'
unique-is-strict κs a r r' s s' p q = p ∙ sym q

pub unique-connect : (κs : _) (a : _) (r r' : _) (s s' : _) → connect.Post κs a r s → connect.Post κs a r' s' → (r ≡ r') × (s.0.now ≡ s'.0.now)
unique-connect κs a r r' s s' p q = given-same p q

pub unique-close : (κs : _) (a : _) (r r' : _) (s s' : _) → close.Post κs a r s → close.Post κs a r' s' → (r ≡ r') × (s.0.now ≡ s'.0.now)
unique-close κs a r r' s s' p q = given-same p q
