-- For one input, two answers that a contract allows are equal.
use mathlib.Core.Path.{◌≡◌, sym, ◌∙◌}
use Rattle.edits.proofs.bit.Reads as bit
use Rattle.edits.proofs.InputEdit.apply.Reads as apply-input
use Rattle.edits.proofs.RelayEdit.apply.Reads as apply-relay
use Rattle.edits.proofs.relay_fails.Reads as relay-fails

pub unique-bit : (κs : _) (a : _) (r r' : _) (s s' : _) → bit.Post κs a r s → bit.Post κs a r' s' → r ≡ r'
unique-bit κs a r r' s s' p q = p ∙ sym q

pub unique-apply-input : (κs : _) (a : _) (r r' : _) (s s' : _) → apply-input.Post κs a r s → apply-input.Post κs a r' s' → r ≡ r'
unique-apply-input κs a r r' s s' p q = p ∙ sym q

pub unique-apply-relay : (κs : _) (a : _) (r r' : _) (s s' : _) → apply-relay.Post κs a r s → apply-relay.Post κs a r' s' → r ≡ r'
unique-apply-relay κs a r r' s s' p q = p ∙ sym q

pub unique-relay-fails : (κs : _) (a : _) (r r' : _) (s s' : _) → relay-fails.Post κs a r s → relay-fails.Post κs a r' s' → r ≡ r'
unique-relay-fails κs a r r' s s' p q = p ∙ sym q
