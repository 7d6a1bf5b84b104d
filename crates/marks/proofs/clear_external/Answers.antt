-- `marks::clear_external`: each turn clears one connection's mark in place.
use Rattle.std.proofs.Math.ListN.{set}
use Rattle.records.specs.Records.{external_word}
use Rattle.rows.specs.Places.{first_line}
use Rattle.rows.proofs.Range.{rows-looped}
use Rattle.marks.specs.Marks.{external_cleared}
use Rattle.marks.proofs.clear_external.Goals as goal

pub returns : goal.returns
unfolding external_cleared
returns c = rows-looped first_line 4 (λ row. set row external_word 0) c.board.view_is c.loop-row-test.false c.loop-row.invariant
