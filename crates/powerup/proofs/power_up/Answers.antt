-- `powerup::power_up`: each turn stores one input, or one relay.
use Prim.Native.Nat.{◌+◌}
use mathlib.Core.Path.{◌∙◌}
use native.Mathlib.Omega.{arith}
use Rattle.rows.proofs.Range.{range-start, range-turn, range-done}
use Rattle.powerup.specs.PowerUp.{powered_up}
use Rattle.powerup.proofs.PowerUp.{input-row, relay-row}
use Rattle.rows.specs.Places.{input_place, relay_place}
use Rattle.powerup.proofs.power_up.Goals as goal

pub loop-k-init : goal.loop-k-init
unfolding powered_up
loop-k-init c = range-start

pub loop-k-preserved : goal.loop-k-preserved
unfolding powered_up
loop-k-preserved c = let l = c.loop-k in range-turn (input_place (l.k + 1)) (omega arith) l.invariant c.loop-k-test.true
    (input-row _ _ _ _ c.loop-k-test.true c.put_input.ensures ∙ rw c.fresh_input.ensures)

pub loop-k-2-init : goal.loop-k-2-init
unfolding powered_up
loop-k-2-init c = range-start

pub loop-k-2-preserved : goal.loop-k-2-preserved
unfolding powered_up
loop-k-2-preserved c = let l = c.loop-k-2 in range-turn (relay_place (l.k + 1)) (omega arith) l.invariant c.loop-k-2-test.true
    (relay-row _ _ _ _ c.loop-k-2-test.true c.put_relay.ensures ∙ rw c.fresh_relay.ensures)

pub returns : goal.returns
unfolding powered_up
returns c = range-done c.loop-k-2.invariant c.loop-k-2-test.false ∙ rw (range-done c.loop-k.invariant c.loop-k-test.false)
