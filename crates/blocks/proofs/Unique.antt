-- For one input, two answers that the contract allows are equal, and so are the boards after them.
use mathlib.Core.Path.{◌≡◌, sym, ap, ◌∙◌}
use Rattle.changes.specs.Answers.{moved_of}
use Rattle.blocks.proofs.block.Reads as block

pub unique-block : (κs : _) (a : _) (r r' : _) (s s' : _) → block.Post κs a r s → block.Post κs a r' s' → (r ≡ r') × (s.0.now ≡ s'.0.now)
unique-block κs a r r' s s' p q = (ap moved_of (p.gives ∙ sym q.gives), p.leaves ∙ sym q.leaves)
