-- `replies::write_head`: type, flags and count.
use Rattle.writers.proofs.Writing.{then}
use Rattle.replies.proofs.write_head.Goals as goal

pub returns : goal.returns
returns c = then c.u8.ensures (then c.u8-2.ensures (rw c.from.ensures at c.u16.ensures))
