-- `lent::lose_first`: the first k pulses of the queue have lost them.
use Rattle.std.proofs.Common.{◌≡◌}
use Rattle.filling.specs.Filling.{row_without}
use Rattle.lent.proofs.lose_first.Given as goal

abbrev pub invariant-loop-k : goal.invariant-loop-k
invariant-loop-k l = l.row ≡ row_without l.place l.q l.k l.fn.row
