-- `tables::pass_pulsed`: each turn lets the time pass for one row; the clock is grown before and stored behind.
use Rattle.std.proofs.Common.{◌≡◌, map, take, drop, ◌++◌}
use Rattle.tables.specs.Time.{usage_passed}
use Rattle.tables.proofs.pass_pulsed.Given as goal

abbrev pub invariant-loop-input_or_relay : goal.invariant-loop-input_or_relay
invariant-loop-input_or_relay l =
    let rows = l.initial.input_or_relay-items in
    let turn = l.input_or_relay-index in
    l.input_or_relay-items ≡ map (usage_passed l.d) (take turn rows) ++ drop turn rows
