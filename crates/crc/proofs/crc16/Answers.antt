-- `crc::crc16`: the rest of the bytes, after the sum so far, gives what the whole does.
use Rattle.std.proofs.Common.{refl, ◌∙◌, arith}
use Rattle.crc.specs.Crc.{crc_of}
use Rattle.crc.proofs.Laws.{four_more}
use Rattle.crc.proofs.crc16.Goals as goal

pub loop-rest-init : goal.loop-rest-init
unfolding crc_of
loop-rest-init c = refl

pub loop-rest-preserved : goal.loop-rest-preserved
loop-rest-preserved c = rw c.next_four-crc.ensures (four_more c.loop-rest.crc c.loop-rest.rest.now (omega arith) ∙ c.loop-rest.invariant)
