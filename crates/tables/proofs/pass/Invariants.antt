-- `tables::pass`: each turn lets the time pass for one row; the clock is grown before and stored behind.
use Rattle.std.proofs.Common.{◌≡◌, map, take, drop, ◌++◌}
use Rattle.tables.specs.Time.{usage_passed}
use Rattle.tables.proofs.pass.Given as goal

abbrev pub invariant-loop-row : goal.invariant-loop-row
invariant-loop-row l = l.row-items ≡ map (usage_passed l.d) (take l.row-index l.initial.row-items) ++ drop l.row-index l.initial.row-items
