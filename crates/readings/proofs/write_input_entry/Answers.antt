-- `readings::write_input_entry`: the head, the readings with the block's count alarms, the usage, the usage alarm. No answer names which rule an
-- alarm was judged by: `cc` looks for it among what the calls ensure.
use mathlib.Core.Path.{◌≡◌}
use mathlib.Core.Bool.{Bool}
use mathlib.Core.List.{◌++◌}
use Rattle.words.specs.Words.{bytes_of}
use Rattle.records.specs.declared.Input.{Input}
use Rattle.writers.specs.declared.Writer.{Writer}
use Rattle.writers.specs.Writers.{one_when}
use Rattle.writers.specs.Writing.{Wrote}
use Rattle.writers.proofs.Writing.{then}
use Rattle.alarms.specs.Alarms.{alarm_at_or_above}
use Rattle.readings.specs.Readings.{readings, input_block}
use Rattle.readings.proofs.write_input_entry.Goals as goal

by-rule : (i : Input) {one two used : Bool} {w₀ w : Writer} → Wrote (readings i one two ++ bytes_of 8 i.usage ++ one_when used) w₀ w
    → one ≡ alarm_at_or_above i.count i.setpoint_one → two ≡ alarm_at_or_above i.count i.setpoint_two
    → used ≡ alarm_at_or_above i.usage i.usage_setpoint → Wrote (input_block i) w₀ w
unfolding input_block
by-rule i w e f g = rw (e, f, g) at w

pub returns : goal.returns
unfolding input_block
returns c =
    let block = then c.write_readings.ensures (then c.u64.ensures c.flag.ensures) in
    then c.write_entry_head.ensures (by-rule c.args.i block (cc) (cc) (cc))
