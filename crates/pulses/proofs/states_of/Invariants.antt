-- `pulses::states_of`: a bit a turn.
use Prim.Native.Nat.{◌-◌}
use Rattle.pulses.proofs.Bits.{Joining}
use Rattle.pulses.proofs.states_of.Given as goal

abbrev pub invariant-loop-k : goal.invariant-loop-k
invariant-loop-k l = Joining l.board l.states l.k

abbrev pub decreases-loop-k : goal.decreases-loop-k
decreases-loop-k l = 16 - l.k
