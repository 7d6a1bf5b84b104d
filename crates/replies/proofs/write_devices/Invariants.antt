-- `replies::write_devices`: an ID for each input, and for each relay that is always there.
use Rattle.devices.specs.declared.Device.TheVariants.{Input, Relay}
use Rattle.devices.specs.Devices.{inputs, own_relays, rising}
use Rattle.writers.proofs.Writing.{Rowing}
use Rattle.replies.specs.Replies.{id_row}
use Rattle.replies.proofs.write_devices.Given as goal

abbrev pub invariant-loop-k : goal.invariant-loop-k
invariant-loop-k l = Rowing id_row (rising Input 1 inputs) l.initial.writer l.writer l.k

abbrev pub invariant-loop-k-2 : goal.invariant-loop-k-2
invariant-loop-k-2 l = Rowing id_row (rising Relay 1 own_relays) l.initial.writer l.writer l.k
