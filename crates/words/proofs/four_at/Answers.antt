-- `words::four_at`: a number of its bytes fits its width.
use native.Mathlib.Nat.{mod-eq_of_lt}
use Rattle.words.proofs.Laws.{number_lt}
use Rattle.words.proofs.four_at.Goals as goal

pub returns : goal.returns
returns c = rw c.number.ensures (mod-eq_of_lt (number_lt c.args.s.now c.args.at 4 (λ i. (c.type_inv.s i).fits)))
