-- `framing::feed`: what is left of the piece, from the state so far, gives what the whole does.
use Rattle.std.proofs.Common.{◌≡◌, ◌-◌, ◌≤◌, length, drop}
use Rattle.framing.specs.Reading.{run_of}
use Rattle.framing.proofs.feed.Given as goal

abbrev pub invariant-loop-i : goal.invariant-loop-i
invariant-loop-i l =
    (l.i ≤ length l.piece) × ((length l.room ≡ length l.fn.room) × (run_of l.i l.h l.room (drop l.i l.piece) ≡ run_of 0 l.fn.half l.fn.room l.piece))

abbrev pub decreases-loop-i : goal.decreases-loop-i
decreases-loop-i l = length l.piece - l.i
