-- For one input, two answers that a contract allows are equal, and so are the boards after them.
use mathlib.Core.Path.{◌≡◌, sym, ◌∙◌}
use Rattle.marks.proofs.has_rank.Reads as has-rank
use Rattle.marks.proofs.mark.Reads as mark
use Rattle.marks.proofs.clear_external.Reads as clear-external

pub unique-has-rank : (κs : _) (a : _) (r r' : _) (s s' : _) → has-rank.Post κs a r s → has-rank.Post κs a r' s' → r ≡ r'
unique-has-rank κs a r r' s s' p q = p ∙ sym q

pub unique-mark : (κs : _) (a : _) (r r' : _) (s s' : _) → mark.Post κs a r s → mark.Post κs a r' s' → s.0.now ≡ s'.0.now
unique-mark κs a r r' s s' p q = p ∙ sym q

pub unique-clear-external : (κs : _) (a : _) (r r' : _) (s s' : _) → clear-external.Post κs a r s → clear-external.Post κs a r' s' → s.0.now ≡ s'.0.now
unique-clear-external κs a r r' s s' p q = p ∙ sym q
