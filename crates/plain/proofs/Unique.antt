-- For one input, two answers that a contract allows are equal, and so is what is left of what was lent.
use mathlib.Core.Path.{◌≡◌, sym, ◌∙◌}
use Rattle.answers.proofs.Same.{given-same, done-same}
use Rattle.plain.proofs.after.Reads as after
use Rattle.plain.proofs.level.Reads as level
use Rattle.plain.proofs.append_external.Reads as append-external
use Rattle.plain.proofs.collect.Reads as collect

pub unique-after : (κs : _) (a : _) (r r' : _) (s s' : _) → after.Post κs a r s → after.Post κs a r' s' → (r ≡ r') × (s.1.0.now ≡ s'.1.0.now)
unique-after κs a r r' s s' p q = (p.1 ∙ sym q.1, p.0 ∙ sym q.0)

pub unique-level : (κs : _) (a : _) (r r' : _) (s s' : _) → level.Post κs a r s → level.Post κs a r' s' → (r ≡ r') × (s.0.now ≡ s'.0.now)
unique-level κs a r r' s s' p q = given-same p q

pub unique-append-external : (κs : _) (a : _) (r r' : _) (s s' : _) → append-external.Post κs a r s → append-external.Post κs a r' s'
    → (r ≡ r') × (s.0.now ≡ s'.0.now)
unique-append-external κs a r r' s s' p q = (p.place ∙ sym q.place, p.bytes ∙ sym q.bytes)

pub unique-collect : (κs : _) (a : _) (r r' : _) (s s' : _) → collect.Post κs a r s → collect.Post κs a r' s'
    → (r ≡ r') × (s.0.now ≡ s'.0.now) × (s.1.1.0.now ≡ s'.1.1.0.now)
unique-collect κs a r r' s s' p q = done-same p q
