-- For one input, two answers that a contract allows are equal.
use mathlib.Core.Path.{◌≡◌, sym, ◌∙◌}
use Rattle.records.proofs.InputFromRow.from.Reads as input-in
use Rattle.records.proofs.RowFromInput.from.Reads as input-words
use Rattle.records.proofs.RelayFromRow.from.Reads as relay-in
use Rattle.records.proofs.Relay.stored_in.Reads as relay-words
use Rattle.records.proofs.LineFromRow.from.Reads as line-in
use Rattle.records.proofs.RowFromLine.from.Reads as line-words
use Rattle.records.proofs.due_words.Reads as due-words
use Rattle.records.proofs.QueueFromRow.from.Reads as queue-in
use Rattle.records.proofs.RowFromQueue.from.Reads as queue-words

pub unique-input-in : (κs : _) (a : _) (r r' : _) (s s' : _) → input-in.Post κs a r s → input-in.Post κs a r' s' → r ≡ r'
unique-input-in κs a r r' s s' p q = p ∙ sym q

pub unique-input-words : (κs : _) (a : _) (r r' : _) (s s' : _) → input-words.Post κs a r s → input-words.Post κs a r' s' → r ≡ r'
unique-input-words κs a r r' s s' p q = p ∙ sym q

pub unique-relay-in : (κs : _) (a : _) (r r' : _) (s s' : _) → relay-in.Post κs a r s → relay-in.Post κs a r' s' → r ≡ r'
unique-relay-in κs a r r' s s' p q = p ∙ sym q

pub unique-relay-words : (κs : _) (a : _) (r r' : _) (s s' : _) → relay-words.Post κs a r s → relay-words.Post κs a r' s' → r ≡ r'
unique-relay-words κs a r r' s s' p q = p ∙ sym q

pub unique-line-in : (κs : _) (a : _) (r r' : _) (s s' : _) → line-in.Post κs a r s → line-in.Post κs a r' s' → r ≡ r'
unique-line-in κs a r r' s s' p q = p ∙ sym q

pub unique-line-words : (κs : _) (a : _) (r r' : _) (s s' : _) → line-words.Post κs a r s → line-words.Post κs a r' s' → r ≡ r'
unique-line-words κs a r r' s s' p q = p ∙ sym q

pub unique-due-words : (κs : _) (a : _) (r r' : _) (s s' : _) → due-words.Post κs a r s → due-words.Post κs a r' s' → r ≡ r'
unique-due-words κs a r r' s s' p q = p ∙ sym q

pub unique-queue-in : (κs : _) (a : _) (r r' : _) (s s' : _) → queue-in.Post κs a r s → queue-in.Post κs a r' s' → r ≡ r'
unique-queue-in κs a r r' s s' p q = p ∙ sym q

pub unique-queue-words : (κs : _) (a : _) (r r' : _) (s s' : _) → queue-words.Post κs a r s → queue-words.Post κs a r' s' → r ≡ r'
unique-queue-words κs a r r' s s' p q = p ∙ sym q
