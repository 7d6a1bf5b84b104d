-- `readings::write_input_row`: the readings with the Monitor message's count alarms. Which rule an alarm was judged by, `cc` looks for among what
-- the calls ensure.
use mathlib.Core.Path.{◌≡◌}
use mathlib.Core.Bool.{Bool}
use Rattle.records.specs.declared.Input.{Input}
use Rattle.writers.specs.declared.Writer.{Writer}
use Rattle.writers.specs.Writing.{Wrote}
use Rattle.alarms.specs.Alarms.{alarm_above}
use Rattle.readings.specs.Readings.{readings, input_row}
use Rattle.readings.proofs.write_input_row.Goals as goal

by-rule : (i : Input) {one two : Bool} {w₀ w : Writer} → Wrote (readings i one two) w₀ w
    → one ≡ alarm_above i.count i.setpoint_one → two ≡ alarm_above i.count i.setpoint_two → Wrote (input_row i) w₀ w
unfolding input_row
by-rule i w e f = rw (e, f) at w

pub returns : goal.returns
returns c = by-rule c.args.i c.write_readings.ensures (cc) (cc)
