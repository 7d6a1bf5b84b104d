-- `marks::mark`: each turn marks one connection in place.
use Rattle.rows.proofs.Range.{Ranging}
use Rattle.rows.specs.Places.{first_line}
use Rattle.marks.specs.Marks.{marked_row}
use Rattle.marks.proofs.mark.Given as goal

abbrev pub invariant-loop-c : goal.invariant-loop-c
invariant-loop-c l = Ranging first_line 4 (λ _. marked_row l.moved.inner l.external) l.initial.board l.board l.c
