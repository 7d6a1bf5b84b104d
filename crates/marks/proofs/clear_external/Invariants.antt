-- `marks::clear_external`: each turn clears one connection's mark in place.
use Rattle.std.proofs.Common.{◌≡◌, map, take, drop, ◌++◌}
use Rattle.std.proofs.Math.ListN.{set}
use Rattle.records.specs.Records.{external_word}
use Rattle.marks.proofs.clear_external.Given as goal

abbrev pub invariant-loop-row : goal.invariant-loop-row
invariant-loop-row l = l.row-items ≡ map (λ row. set row external_word 0) (take l.row-index l.initial.row-items) ++ drop l.row-index l.initial.row-items
