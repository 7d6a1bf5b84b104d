-- `crc::crc16`: the rest of the bytes, after the sum so far, gives what the whole does.
use Rattle.std.proofs.Common.{◌≡◌, length}
use Rattle.crc.specs.Crc.{crc_from, crc_of}
use Rattle.crc.proofs.crc16.Given as goal

abbrev pub invariant-loop-rest : goal.invariant-loop-rest
invariant-loop-rest l = crc_from l.crc l.rest ≡ crc_of l.s

abbrev pub decreases-loop-rest : goal.decreases-loop-rest
decreases-loop-rest l = length l.rest
