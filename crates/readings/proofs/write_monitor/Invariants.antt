-- `readings::write_monitor`: the head, the rows of the inputs and of the relays, the clock.
use Rattle.writers.specs.Writers.{inputs_of, relays_of, relay_row}
use Rattle.writers.proofs.Writing.{Rowing}
use Rattle.readings.specs.Readings.{input_row}
use Rattle.readings.proofs.write_monitor.Given as goal

abbrev pub invariant-loop-k : goal.invariant-loop-k
invariant-loop-k l = Rowing input_row (inputs_of l.board) l.initial.writer l.writer l.k

abbrev pub invariant-loop-k-2 : goal.invariant-loop-k-2
invariant-loop-k-2 l = Rowing relay_row (relays_of l.board) l.initial.writer l.writer l.k
