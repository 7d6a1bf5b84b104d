-- `capi::wellacorn_pass_pulsed`: a turn goes to the end of the running pulse.
use Rattle.std.proofs.Common.{◌<◌}
use Rattle.pulses.proofs.Passing.{Passing, waiting, passing-start, passing-turn}
use Rattle.board.proofs.Timed.{pass-refused, pass-over}
use Rattle.capi.proofs.wellacorn_pass_pulsed.Goals as goal

turn : (c : goal.After-turn-ending)
    → Passing c.args.row.now c.args.d c.args.board.now c.turn-ending.result c.turn-ending.new.board
    × (waiting c.turn-ending.new.board < waiting c.loop-ending.board)
turn c =
    passing-turn (rw c.in-Some.is at c.loop-ending.invariant.1)
    (rw (c.pulse_at-running.ensures, c.pulse_at-next.ensures) at c.turn-ending.ensures)

pub returns-in-Err : goal.returns-in-Err
returns-in-Err c =
    let short = passing-start _ _ _ _ _ c.in-Err.ensures in
    rw (c.number.ensures, short.2) (pass-refused _ _ _ _ short.0 short.1)

pub loop-ending-init : goal.loop-ending-init
loop-ending-init c = passing-start _ _ _ _ _ c.in-Ok.ensures

pub loop-ending-smaller : goal.loop-ending-smaller
loop-ending-smaller c = (turn c).1

pub loop-ending-preserved : goal.loop-ending-preserved
loop-ending-preserved c = (c.loop-ending.invariant.0, (turn c).0)

pub returns : goal.returns
returns c = pass-over _ _ _ _ c.loop-ending.invariant.0 (rw c.in_default.is at c.loop-ending.invariant.1)
