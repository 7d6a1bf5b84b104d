-- For one input, two answers that a contract allows are equal, and so are the half-read messages after it.
use mathlib.Core.Path.{◌≡◌, sym, ◌∙◌}
use Rattle.halves.proofs.half_at.Reads as half_at
use Rattle.halves.proofs.keep_half.Reads as keep-half
use Rattle.halves.proofs.drop_half.Reads as drop-half

pub unique-half-at : (κs : _) (a : _) (r r' : _) (s s' : _) → half_at.Post κs a r s → half_at.Post κs a r' s' → r ≡ r'
unique-half-at κs a r r' s s' p q = p ∙ sym q

pub unique-keep-half : (κs : _) (a : _) (r r' : _) (s s' : _) → keep-half.Post κs a r s → keep-half.Post κs a r' s' → s.0.now ≡ s'.0.now
unique-keep-half κs a r r' s s' p q = p ∙ sym q

pub unique-drop-half : (κs : _) (a : _) (r r' : _) (s s' : _) → drop-half.Post κs a r s → drop-half.Post κs a r' s' → s.0.now ≡ s'.0.now
unique-drop-half κs a r r' s s' p q = p ∙ sym q
