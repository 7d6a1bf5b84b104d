-- `readings::write_devices`: type and count, and an entry for each ID asked for.
use Rattle.writers.proofs.Writing.{Rowing}
use Rattle.readings.specs.Readings.{entry_of, ids_in}
use Rattle.readings.proofs.write_devices.Given as goal

abbrev pub invariant-loop-k : goal.invariant-loop-k
invariant-loop-k l = Rowing (entry_of l.board) (ids_in l.ids) l.initial.writer l.writer l.k
