-- `replies::write_clock`: the clock as it is read.
use native.Mathlib.Nat.{div-one}
use Rattle.replies.proofs.write_clock.Goals as goal

pub returns : goal.returns
returns c = rw div-one (rw (c.to_be_bytes.ensures, c.clock.ensures) at c.write_number.ensures)
