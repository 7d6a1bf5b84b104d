-- For one input, two answers that a contract allows are equal, and so are the boards after them.
use mathlib.Core.Path.{◌≡◌, sym, ◌∙◌}
use Rattle.pulses.proofs.push.Reads as push
use Rattle.pulses.proofs.at_once.Reads as at-once
use Rattle.pulses.proofs.start.Reads as start
use Rattle.pulses.proofs.turn.Reads as turn

pub unique-push : (κs : _) (a : _) (r r' : _) (s s' : _) → push.Post κs a r s → push.Post κs a r' s' → (r ≡ r') × (s.0.now ≡ s'.0.now)
unique-push κs a r r' s s' p q = (p.1 ∙ sym q.1, p.0 ∙ sym q.0)

pub unique-at-once : (κs : _) (a : _) (r r' : _) (s s' : _) → at-once.Post κs a r s → at-once.Post κs a r' s' → (r ≡ r') × (s.0.now ≡ s'.0.now)
unique-at-once κs a r r' s s' p q = (p.1 ∙ sym q.1, p.0 ∙ sym q.0)

pub unique-start : (κs : _) (a : _) (r r' : _) (s s' : _) → start.Post κs a r s → start.Post κs a r' s' → (r ≡ r') × (s.0.now ≡ s'.0.now)
unique-start κs a r r' s s' p q = (p.gives ∙ sym q.gives, p.board ∙ sym q.board)

pub unique-turn : (κs : _) (a : _) (r r' : _) (s s' : _) → turn.Post κs a r s → turn.Post κs a r' s' → (r ≡ r') × (s.0.now ≡ s'.0.now)
unique-turn κs a r r' s s' p q = (p.gives ∙ sym q.gives, p.board ∙ sym q.board)
