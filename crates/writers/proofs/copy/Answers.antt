-- `writers::copy`: a part of the lent bytes, lent on.
use Rattle.std.proofs.Common.{arith}
use Rattle.laws.proofs.Put.{put-lent}
use Rattle.writers.proofs.copy.Goals as goal

pub returns : goal.returns
returns c = rw c.copy_from_slice.ensures.after (put-lent c.args.at _ c.args.bytes.now c.args.out.now (omega arith) (omega arith))
