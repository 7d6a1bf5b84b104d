-- For one input, two answers that a contract allows are equal, and so are the boards after them.
use mathlib.Core.Path.{◌≡◌, sym, ◌∙◌}
use Rattle.filling.proofs.fill.Reads as fill
use Rattle.filling.proofs.empty.Reads as empty
use Rattle.filling.proofs.losing_of.Reads as losing-of
use Rattle.filling.proofs.lose.Reads as lose

pub unique-fill : (κs : _) (a : _) (r r' : _) (s s' : _) → fill.Post κs a r s → fill.Post κs a r' s' → (r ≡ r') × (s.0.now ≡ s'.0.now)
unique-fill κs a r r' s s' p q = (p.gives ∙ sym q.gives, p.board ∙ sym q.board)

pub unique-empty : (κs : _) (a : _) (r r' : _) (s s' : _) → empty.Post κs a r s → empty.Post κs a r' s' → (r ≡ r') × (s.0.now ≡ s'.0.now)
unique-empty κs a r r' s s' p q = (p.gives ∙ sym q.gives, p.board ∙ sym q.board)

pub unique-losing-of : (κs : _) (a : _) (r r' : _) (s s' : _) → losing-of.Post κs a r s → losing-of.Post κs a r' s' → r ≡ r'
unique-losing-of κs a r r' s s' p q = p ∙ sym q

pub unique-lose : (κs : _) (a : _) (r r' : _) (s s' : _) → lose.Post κs a r s → lose.Post κs a r' s' → r ≡ r'
unique-lose κs a r r' s s' p q = p ∙ sym q
