-- `readings::write_devices`: type and count, and an entry for each ID asked for.
use native.Mathlib.Nat.{div-one}
use Rattle.std.proofs.Common.{refl, rules, arith, ◌∙◌}
use Rattle.words.specs.Words.{bytes_of}
use Rattle.writers.specs.Writing.{Wrote}
use Rattle.writers.proofs.Writing.{then, sent, begin, turn, end}
use Rattle.readings.specs.Readings.{id_count, devices_reply}
use Rattle.readings.proofs.Places.{length_ids, id-place}
use Rattle.readings.proofs.Lengths.{length-devices}
use Rattle.readings.proofs.write_devices.Goals as goal

pub loop-k-init : goal.loop-k-init
loop-k-init c = begin

pub loop-k-preserved : goal.loop-k-preserved
loop-k-preserved c =
    let h = c.loop-k-test.true in
    turn 0 c.loop-k.invariant (omega (arith, length_ids c.args.ids.now)) (rw (c.eight_at.ensures ∙ id-place _ _ h) at c.write_entry.ensures)

pub returns : goal.returns
unfolding devices_reply
returns c =
    let rows = end c.loop-k.invariant (omega (arith, length_ids c.args.ids.now)) in
    let count : Wrote (bytes_of 2 (id_count c.args.ids.now)) c.u8.new.self c.bytes.new.self = rw div-one (rw c.to_be_bytes.ensures at c.bytes.ensures) in
    let wrote : Wrote (devices_reply c.args.ids.now c.args.board.now) c.new-writer.result c.loop-k.writer = then c.u8.ensures (then count rows) in
    sent (omega arith) (length-devices _ _) c.new-writer.ensures.bytes c.new-writer.ensures.place wrote (search rules) refl
