-- For one input, two answers that a contract allows are equal, and so is what is left in the lent slice.
use mathlib.Core.Path.{◌≡◌, sym, ◌∙◌}
use Rattle.hexadecimal.proofs.parse.Reads as parse
use Rattle.hexadecimal.proofs.relay_number.Reads as relay-number
use Rattle.hexadecimal.proofs.digits.Reads as digits

pub unique-parse : (κs : _) (a : _) (r r' : _) (s s' : _) → parse.Post κs a r s → parse.Post κs a r' s' → (r ≡ r') × (s.1.0.now ≡ s'.1.0.now)
unique-parse κs a r r' s s' p q = (p.0 ∙ sym q.0, p.1 ∙ sym q.1)

pub unique-relay-number : (κs : _) (a : _) (r r' : _) (s s' : _) → relay-number.Post κs a r s → relay-number.Post κs a r' s' → r ≡ r'
unique-relay-number κs a r r' s s' p q = p ∙ sym q

pub unique-digits : (κs : _) (a : _) (r r' : _) (s s' : _) → digits.Post κs a r s → digits.Post κs a r' s' → r ≡ r'
unique-digits κs a r r' s s' p q = p ∙ sym q
