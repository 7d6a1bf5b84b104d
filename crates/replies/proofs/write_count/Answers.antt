-- `replies::write_count`: the number in its two bytes.
use native.Mathlib.Nat.{div-one}
use Rattle.replies.proofs.write_count.Goals as goal

pub returns : goal.returns
returns c = rw div-one (rw c.to_be_bytes.ensures at c.write_number.ensures)
