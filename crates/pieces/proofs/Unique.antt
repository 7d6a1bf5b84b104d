-- For one input, two answers that a contract allows are equal, and so is what is left of what was lent.
use mathlib.Core.Path.{◌≡◌, sym, ◌∙◌}
use Rattle.pieces.proofs.Same.{answers}
use Rattle.pieces.proofs.finish.Reads as finish
use Rattle.pieces.proofs.give_bytes.Reads as give-bytes

pub unique-finish : (κs : _) (a : _) (r r' : _) (s s' : _) → finish.Post κs a r s → finish.Post κs a r' s' → r ≡ r'
unique-finish κs a r r' s s' p q = p.0 ∙ sym q.0

pub unique-give-bytes : (κs : _) (a : _) (r r' : _) (s s' : _) → give-bytes.Post κs a r s → give-bytes.Post κs a r' s'
    → (r ≡ r') × (s.0.now ≡ s'.0.now) × (s.1.0.now ≡ s'.1.0.now) × (s.1.1.0.now ≡ s'.1.1.0.now) ×
    (s.1.1.1.1.1.1.0.now ≡ s'.1.1.1.1.1.1.0.now)
unique-give-bytes κs a r r' s s' p q =
    let same = answers p.0 q.0 in
    (same.0, same.1, p.1.0 ∙ sym q.1.0, p.1.1.0 ∙ sym q.1.1.0, same.2)
