-- For one input, two answers that a contract allows are equal, and so are the boards after them.
use mathlib.Core.Path.{◌≡◌, sym, ◌∙◌}
use Rattle.modules.proofs.is_place.Reads as is-place
use Rattle.modules.proofs.is_filled.Reads as is-filled
use Rattle.modules.proofs.set_filled.Reads as set-filled
use Rattle.modules.proofs.is_present.Reads as is-present
use Rattle.modules.proofs.has_module.Reads as has-module
use Rattle.modules.proofs.output_count.Reads as output-count
use Rattle.modules.proofs.moved_at.Reads as moved_at

pub unique-is-place : (κs : _) (a : _) (r r' : _) (s s' : _) → is-place.Post κs a r s → is-place.Post κs a r' s' → r ≡ r'
unique-is-place κs a r r' s s' p q = p ∙ sym q

pub unique-is-filled : (κs : _) (a : _) (r r' : _) (s s' : _) → is-filled.Post κs a r s → is-filled.Post κs a r' s' → r ≡ r'
unique-is-filled κs a r r' s s' p q = p ∙ sym q

pub unique-set-filled : (κs : _) (a : _) (r r' : _) (s s' : _) → set-filled.Post κs a r s → set-filled.Post κs a r' s' → s.0.now ≡ s'.0.now
unique-set-filled κs a r r' s s' p q = p ∙ sym q

pub unique-is-present : (κs : _) (a : _) (r r' : _) (s s' : _) → is-present.Post κs a r s → is-present.Post κs a r' s' → r ≡ r'
unique-is-present κs a r r' s s' p q = p ∙ sym q

pub unique-has-module : (κs : _) (a : _) (r r' : _) (s s' : _) → has-module.Post κs a r s → has-module.Post κs a r' s' → r ≡ r'
unique-has-module κs a r r' s s' p q = p ∙ sym q

pub unique-moved-at : (κs : _) (a : _) (r r' : _) (s s' : _) → moved_at.Post κs a r s → moved_at.Post κs a r' s' → r ≡ r'
unique-moved-at κs a r r' s s' p q = p ∙ sym q

pub unique-output-count : (κs : _) (a : _) (r r' : _) (s s' : _) → output-count.Post κs a r s → output-count.Post κs a r' s' → r ≡ r'
unique-output-count κs a r r' s s' p q = p ∙ sym q
