-- `crc::four_bytes`: what the code works out is the fold.
use Rattle.std.proofs.Common.{arith}
use Rattle.crc.proofs.Laws.{fold-steps}
use Rattle.crc.proofs.four_bytes.Goals as goal

pub returns : goal.returns
returns c = fold-steps c.args.n (omega arith)
