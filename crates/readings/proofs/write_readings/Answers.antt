-- `readings::write_readings`: a byte each, the count's low four between them.
use native.Mathlib.Nat.{div-one}
use Rattle.writers.proofs.Writing.{byte-when}
use Rattle.alarms.specs.Alarms.{alarm_state}
use Rattle.readings.proofs.write_readings.Goals as goal

pub returns : goal.returns
returns c =
    let a = c.args in
    let flags = rw (c.from-alarm.ensures, c.alarm_state.ensures, c.from.ensures, c.from-2.ensures, c.from-3.ensures) at c.bytes.ensures in
    let bytes = rw c.to_be_bytes-count.ensures at flags in
    rw div-one (rw (byte-when (alarm_state a.i), byte-when a.one, byte-when a.two, byte-when _) at bytes)
