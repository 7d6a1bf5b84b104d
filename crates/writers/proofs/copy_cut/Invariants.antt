-- `writers::copy_cut`: the first bytes stand there, as far as there is room.
use Rattle.std.proofs.Common.{◌≡◌, take}
use Rattle.laws.specs.Put.{put}
use Rattle.writers.proofs.copy_cut.Given as goal

abbrev pub invariant-loop-i : goal.invariant-loop-i
invariant-loop-i l = l.out ≡ put l.at (take l.i l.bytes) l.fn.out
