-- `replies::write_outputs`: a turn for each relay of the second deck.
use Rattle.modules.specs.Modules.{second_deck}
use Rattle.writers.proofs.Writing.{Rowing}
use Rattle.replies.specs.Replies.{present_row}
use Rattle.replies.proofs.write_outputs.Given as goal

abbrev pub invariant-loop-k : goal.invariant-loop-k
invariant-loop-k l = Rowing (present_row l.board) second_deck l.initial.writer l.writer l.k
