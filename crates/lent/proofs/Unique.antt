-- For one input, two answers that a contract allows are equal, and so are the rows after them.
use mathlib.Core.Path.{◌≡◌, sym, ◌∙◌}
use Rattle.lent.proofs.pulse_at.Reads as pulse-at
use Rattle.lent.proofs.put_pulse.Reads as put-pulse
use Rattle.lent.proofs.lose_at.Reads as lose-at
use Rattle.lent.proofs.lose_first.Reads as lose-first

pub unique-pulse-at : (κs : _) (a : _) (r r' : _) (s s' : _) → pulse-at.Post κs a r s → pulse-at.Post κs a r' s' → r ≡ r'
unique-pulse-at κs a r r' s s' p q = p ∙ sym q

pub unique-put-pulse : (κs : _) (a : _) (r r' : _) (s s' : _) → put-pulse.Post κs a r s → put-pulse.Post κs a r' s' → s.0.now ≡ s'.0.now
unique-put-pulse κs a r r' s s' p q = p ∙ sym q

pub unique-lose-at : (κs : _) (a : _) (r r' : _) (s s' : _) → lose-at.Post κs a r s → lose-at.Post κs a r' s' → s.0.now ≡ s'.0.now
unique-lose-at κs a r r' s s' p q = p ∙ sym q

pub unique-lose-first : (κs : _) (a : _) (r r' : _) (s s' : _) → lose-first.Post κs a r s → lose-first.Post κs a r' s' → s.0.now ≡ s'.0.now
unique-lose-first κs a r r' s s' p q = p ∙ sym q
