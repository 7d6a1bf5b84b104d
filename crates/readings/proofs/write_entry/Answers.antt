-- `readings::write_entry`: by what the ID names.
use Rattle.std.proofs.Common.{sym, ◌∙◌}
use Rattle.readings.specs.Readings.{block_of, entry_of}
use Rattle.readings.proofs.write_entry.Goals as goal
use Rattle.readings.proofs.write_entry.Goals.{in_default-via-in-Some-Relay+else-is_channel, in_default-via-in_default}

pub returns-in-Some-Input : goal.returns-in-Some-Input
unfolding block_of entry_of
returns-in-Some-Input c = rw (sym c.from_id.ensures ∙ c.in-Some-Input.is, c.in-Some-Input.field-0-is, ← c.input_at.ensures) c.write_input_entry.ensures

pub returns-in-Some-Relay : goal.returns-in-Some-Relay
unfolding block_of entry_of
returns-in-Some-Relay c =
    let near = sym c.is_channel.ensures ∙ c.if-is_channel.true in
    rw (sym c.from_id.ensures ∙ c.in-Some-Relay.is, c.in-Some-Relay.field-0-is, near, ← c.relay_at.ensures) c.write_relay_entry.ensures

pub returns-in_default : goal.returns-in_default
unfolding block_of entry_of
returns-in_default c = elim c.in_default.branch [
  | in_default-via-in-Some-Relay+else-is_channel w ↦
      let far = sym w.is_channel.ensures ∙ w.if-is_channel.false in
      rw (sym c.from_id.ensures ∙ w.in-Some-Relay.is, w.in-Some-Relay.field-0-is, far) c.write_entry_head.ensures
  | in_default-via-in_default w ↦ rw (sym c.from_id.ensures ∙ w.in_default.is) c.write_entry_head.ensures
]
