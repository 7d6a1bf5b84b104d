-- `tables::pass_pulsed`: each turn lets the time pass for one row; the clock is grown before and stored behind.
use Rattle.std.proofs.Common.{rules, ◌∙◌}
use Rattle.std.proofs.lemmas.List.Edits.{map_over_more}
use Rattle.tables.specs.Time.{usage_passed}
use Rattle.tables.proofs.Rows.{rows-passed}
use Rattle.tables.proofs.pass_pulsed.Goals as goal

pub loop-input_or_relay-preserved : goal.loop-input_or_relay-preserved
loop-input_or_relay-preserved c = search (rules, map_over_more (usage_passed c.args.d))

pub returns : goal.returns
returns c =
    c.set_clock.ensures
    ∙ rows-passed c.board.view_is c.loop-input_or_relay-test.false c.loop-input_or_relay.invariant c.clock.ensures c.clock.type_inv c.from.ensures
    (search rules)
