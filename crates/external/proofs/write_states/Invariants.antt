-- `external::write_states`: a turn for each relay of the second deck.
use Rattle.modules.specs.Modules.{second_deck}
use Rattle.writers.proofs.Writing.{Rowing}
use Rattle.external.specs.External.{present_state}
use Rattle.external.proofs.write_states.Given as goal

abbrev pub invariant-loop-k : goal.invariant-loop-k
invariant-loop-k l = Rowing (present_state l.board) second_deck l.initial.writer l.writer l.k
