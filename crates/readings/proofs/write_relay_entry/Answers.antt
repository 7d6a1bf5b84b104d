-- `readings::write_relay_entry`: the head, the state, the usage, the usage alarm.
use Rattle.writers.proofs.Writing.{then}
use Rattle.readings.specs.Readings.{relay_block}
use Rattle.readings.proofs.write_relay_entry.Goals as goal

pub returns : goal.returns
unfolding relay_block
returns c = then c.write_entry_head.ensures (then c.flag.ensures (then c.u64.ensures (rw c.alarm_at_or_above-used.ensures at c.flag-2.ensures)))
