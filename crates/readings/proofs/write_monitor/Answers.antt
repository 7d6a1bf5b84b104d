-- `readings::write_monitor`: the head, the rows of the inputs and of the relays, the clock. The first test, for room, is named nowhere: `omega` finds it.
use Rattle.std.proofs.Common.{refl, rules, arith}
use lib.Dec.{lit≤}
use Rattle.laws.specs.Put.{rows}
use Rattle.records.specs.Records.{blank_input, blank_relay}
use Rattle.writers.specs.Writers.{inputs_of, relays_of}
use Rattle.writers.specs.Writing.{Wrote}
use Rattle.writers.proofs.Writing.{then, sent, begin, turn, end}
use Rattle.writers.proofs.Channels.{input-place, relay-place}
use Rattle.readings.specs.Readings.{input_row, monitor_reply}
use Rattle.readings.proofs.Lengths.{length-monitor}
use Rattle.readings.proofs.write_monitor.Goals as goal

pub loop-k-init : goal.loop-k-init
loop-k-init c = begin

pub loop-k-preserved : goal.loop-k-preserved
unfolding inputs_of
loop-k-preserved c = let h = c.loop-k-test.true in
    turn blank_input c.loop-k.invariant h (rw (c.input_at.ensures, input-place _ c.loop-k.k h) at c.write_input_row.ensures)

pub loop-k-2-init : goal.loop-k-2-init
loop-k-2-init c = begin

pub loop-k-2-preserved : goal.loop-k-2-preserved
unfolding relays_of
loop-k-2-preserved c = let h = c.loop-k-2-test.true in
    turn blank_relay c.loop-k-2.invariant h (rw (c.relay_at.ensures, relay-place _ c.loop-k-2.k h) at c.flag.ensures)

pub returns : goal.returns
unfolding rows inputs_of relays_of input_row monitor_reply
returns c =
    let behind = then (end c.loop-k.invariant c.loop-k-test.false) (then (end c.loop-k-2.invariant c.loop-k-2-test.false)
    (rw c.clock.ensures at c.u64.ensures)) in
    let wrote : Wrote (monitor_reply c.args.board.now) c.new-writer.result c.u64.new.self =
    then c.u8.ensures (then c.u8-2.ensures (then c.bytes.ensures behind)) in
    sent (omega arith) (rw length-monitor (lit≤ tt)) c.new-writer.ensures.bytes c.new-writer.ensures.place wrote (search rules) refl
