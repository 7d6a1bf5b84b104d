-- `hexadecimal::relay_number`: the start, one relay more, and the end.
use Rattle.std.proofs.Common.{arith}
use Rattle.hexadecimal.proofs.Showing.{gather-start, gather-turn}
use Rattle.hexadecimal.proofs.relay_number.Goals as goal

pub loop-k-init : goal.loop-k-init
loop-k-init c = gather-start

pub loop-k-preserved : goal.loop-k-preserved
loop-k-preserved c = gather-turn c.loop-k.invariant (omega arith) c.relay_at.ensures c.closed_bit.ensures.0
