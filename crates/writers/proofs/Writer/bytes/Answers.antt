-- `writers::Writer::bytes`: all of them, or those that fit.
use Rattle.std.proofs.Common.{refl, arith}
use Rattle.writers.proofs.Writer.bytes.Goals as goal

pub returns-then-bytes-room : goal.returns-then-bytes-room
returns-then-bytes-room c = record { same = refl; bytes = c.copy.ensures; place = omega (arith, c.if-bytes-room.true) }

pub returns-else-bytes-room : goal.returns-else-bytes-room
returns-else-bytes-room c = record { same = refl; bytes = c.copy_cut.ensures; place = omega (arith, c.if-bytes-room.false) }
