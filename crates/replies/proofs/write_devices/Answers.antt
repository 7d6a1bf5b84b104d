-- `replies::write_devices`: an ID for each input, and for each relay that is always there.
use Rattle.std.proofs.Common.{ap, ◌∙◌}
use Rattle.laws.specs.Put.{rows}
use Rattle.writers.proofs.Writing.{then, begin, turn, end}
use Rattle.devices.specs.declared.Device.TheVariants.{Input, Relay}
use Rattle.devices.specs.Devices.{id_of}
use Rattle.replies.proofs.Places.{input-device, relay-device}
use Rattle.replies.proofs.write_devices.Goals as goal

pub loop-k-init : goal.loop-k-init
loop-k-init c = begin

pub loop-k-preserved : goal.loop-k-preserved
loop-k-preserved c = turn (Input 0) c.loop-k.invariant c.loop-k-test.true
    (rw (c.id.ensures ∙ ap id_of (input-device _ c.loop-k-test.true)) at c.u64.ensures)

pub loop-k-2-init : goal.loop-k-2-init
loop-k-2-init c = begin

pub loop-k-2-preserved : goal.loop-k-2-preserved
loop-k-2-preserved c = turn (Relay 0) c.loop-k-2.invariant c.loop-k-2-test.true
    (rw (c.id-in-loop-k-2.ensures ∙ ap id_of (relay-device _ c.loop-k-2-test.true)) at c.u64-in-loop-k-2.ensures)

pub returns : goal.returns
unfolding rows
returns c = then (end c.loop-k.invariant c.loop-k-test.false) (end c.loop-k-2.invariant c.loop-k-2-test.false)
