-- `serving::obey`: the pulses, accepted or refused, send nothing.
use Rattle.serving.specs.Obeying.{obeyed}
use Rattle.answers.proofs.Replying.{quiet}
use Rattle.serving.proofs.Silent.{pulse-silent, relay-silent}
use Rattle.serving.proofs.obey.Goals as goal

pub returns-in-PulseRelay : goal.returns-in-PulseRelay
unfolding obeyed
returns-in-PulseRelay c = rw c.in-PulseRelay.is (quiet (relay-silent _ _ _) c.pulse_relay.ensures)

pub returns-in-PulseBlock : goal.returns-in-PulseBlock
unfolding obeyed
returns-in-PulseBlock c = rw (c.in-PulseBlock.is, ← c.block-in-PulseBlock.ensures) (quiet (pulse-silent _ _) c.pulse.ensures)
