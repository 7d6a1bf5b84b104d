-- `crc::next_four`: the four bytes as one number take their steps at once.
use Rattle.std.proofs.Common.{rules}
use Rattle.crc.proofs.Laws.{four_next}
use Rattle.crc.proofs.next_four.Goals as goal

pub returns : goal.returns
returns c = rw (c.four_bytes.ensures, c.from.ensures, c.from_le_bytes.ensures) (four_next _ _ (search rules) (search rules))
