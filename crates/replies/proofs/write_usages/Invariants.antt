-- `replies::write_usages`: the type, the usages of the inputs and of the relays, the clock.
use Rattle.writers.specs.Writers.{inputs_of, relays_of, input_usage, relay_usage}
use Rattle.writers.proofs.Writing.{Rowing}
use Rattle.replies.proofs.write_usages.Given as goal

abbrev pub invariant-loop-k : goal.invariant-loop-k
invariant-loop-k l = Rowing input_usage (inputs_of l.board) l.initial.writer l.writer l.k

abbrev pub invariant-loop-k-2 : goal.invariant-loop-k-2
invariant-loop-k-2 l = Rowing relay_usage (relays_of l.board) l.initial.writer l.writer l.k
