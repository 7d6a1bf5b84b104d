-- For one input, two answers that a contract allows are equal, and so are the reply buffers after them.
use mathlib.Core.Path.{◌≡◌, sym, ◌∙◌}
use Rattle.answers.proofs.refused_at.Reads as refused-at
use Rattle.answers.proofs.refused.Reads as refused
use Rattle.answers.proofs.concluded.Reads as concluded
use Rattle.answers.proofs.no_reply.Reads as no-reply
use Rattle.answers.proofs.replied.Reads as replied
use Rattle.answers.proofs.seal.Reads as seal

pub unique-refused-at : (κs : _) (a : _) (r r' : _) (s s' : _) → refused-at.Post κs a r s → refused-at.Post κs a r' s' → r ≡ r'
unique-refused-at κs a r r' s s' p q = p ∙ sym q

pub unique-refused : (κs : _) (a : _) (r r' : _) (s s' : _) → refused.Post κs a r s → refused.Post κs a r' s' → r ≡ r'
unique-refused κs a r r' s s' p q = p ∙ sym q

pub unique-concluded : (κs : _) (a : _) (r r' : _) (s s' : _) → concluded.Post κs a r s → concluded.Post κs a r' s' → r ≡ r'
unique-concluded κs a r r' s s' p q = p ∙ sym q

pub unique-no-reply : (κs : _) (a : _) (r r' : _) (s s' : _) → no-reply.Post κs a r s → no-reply.Post κs a r' s' → r ≡ r'
unique-no-reply κs a r r' s s' p q = p ∙ sym q

pub unique-replied : (κs : _) (a : _) (r r' : _) (s s' : _) → replied.Post κs a r s → replied.Post κs a r' s' → r ≡ r'
unique-replied κs a r r' s s' p q = p ∙ sym q

pub unique-seal : (κs : _) (a : _) (r r' : _) (s s' : _) → seal.Post κs a r s → seal.Post κs a r' s' → (r ≡ r') × (s.1.0.now ≡ s'.1.0.now)
unique-seal κs a r r' s s' p q = (p.0 ∙ sym q.0, p.1 ∙ sym q.1)
