-- `replies::write_number`: the type, and the number behind it.
use Rattle.std.proofs.Common.{refl, rules, arith}
use Rattle.writers.proofs.Sending.{unsent}
use Rattle.writers.proofs.Writing.{then, sent}
use Rattle.replies.proofs.write_number.Goals as goal

pub returns-then-out-number : goal.returns-then-out-number
returns-then-out-number c = unsent (omega arith)

pub returns : goal.returns
returns c = sent (omega arith) (omega arith) c.new-writer.ensures.bytes c.new-writer.ensures.place (then c.u8.ensures c.bytes.ensures) (search rules) refl
