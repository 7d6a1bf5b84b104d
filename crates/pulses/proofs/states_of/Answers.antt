-- `pulses::states_of`: a bit a turn.
use native.Mathlib.Omega.{arith}
use Rattle.pulses.proofs.Bits.{weighed, join-start, join-fits, join-turn, join-done}
use Rattle.pulses.proofs.states_of.Goals as goal

pub loop-k-init : goal.loop-k-init
loop-k-init c = join-start

pub overflow_add-states : goal.overflow_add-states
overflow_add-states c =
    let closed = c.relay_at.result.closed in
    let fits = join-fits closed c.loop-k.invariant c.loop-k-test.true in
    rw (c.from.ensures, weighed c.loop-k.k closed c.loop-k-test.true) (omega (arith, fits))

pub loop-k-preserved : goal.loop-k-preserved
loop-k-preserved c =
    rw (c.from.ensures, weighed c.loop-k.k c.relay_at.result.closed c.loop-k-test.true, c.relay_at.ensures)
    (join-turn c.loop-k.invariant c.loop-k-test.true)

pub returns : goal.returns
returns c = join-done c.loop-k.invariant c.loop-k-test.false
