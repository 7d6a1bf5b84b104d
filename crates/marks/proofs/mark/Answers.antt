-- `marks::mark`: each turn marks one connection in place.
use Rattle.std.proofs.Common.{arith}
use Rattle.rows.specs.Places.{line_place}
use Rattle.rows.proofs.Range.{range-start, range-turn}
use Rattle.marks.proofs.Lines.{marked-row}
use Rattle.marks.proofs.mark.Goals as goal

pub loop-c-init : goal.loop-c-init
loop-c-init c = range-start

pub loop-c-preserved : goal.loop-c-preserved
loop-c-preserved c =
    let h = c.loop-c-test.true in
    range-turn (line_place c.loop-c.c) (omega arith) c.loop-c.invariant h (marked-row _ _ _ _ _ h c.mark_line.ensures)
