-- `crc::one_byte`: the eight steps of a byte are the last of thirty-two.
use Rattle.std.proofs.Common.{sym, arith}
use Rattle.crc.proofs.Laws.{byte_last}
use Rattle.crc.proofs.one_byte.Goals as goal

pub returns : goal.returns
returns c = rw (c.four_bytes.ensures, c.from-low.ensures, c.from.ensures) (sym (byte_last c.args.crc c.args.b (omega arith)))
