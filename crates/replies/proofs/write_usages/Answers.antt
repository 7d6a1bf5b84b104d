-- `replies::write_usages`: the type, the usages of the inputs and of the relays, the clock.
use Rattle.std.proofs.Common.{refl, rules, arith}
use mathlib.Core.Path.{◌≡◌}
use Prim.Native.Nat.{ℕ, ◌+◌, ◌<◌}
use lib.Dec.{lit≤}
use lib.ListN.{get_or}
use Rattle.words.specs.Words.{bytes_of}
use Rattle.rows.specs.Places.{Board, input_at, relay_at}
use Rattle.writers.specs.declared.Writer.{Writer}
use Rattle.writers.specs.Writing.{Wrote}
use Rattle.laws.specs.Put.{rows}
use Rattle.records.specs.Records.{blank_input, blank_relay}
use Rattle.writers.specs.Writers.{inputs_of, relays_of, input_usage, relay_usage}
use Rattle.writers.proofs.Writing.{then, sent, begin, turn, end}
use Rattle.writers.proofs.Channels.{input-place, relay-place}
use Rattle.replies.specs.Replies.{usages_reply}
use Rattle.replies.proofs.write_usages.Goals as goal

-- a usage written, by the place of what has it. Whose was read, `cc` looks for among what the calls ensure
input-used : (t : Board) (k : ℕ) → k < 8 → {v : ℕ} {w₀ w : Writer} → Wrote (bytes_of 8 v) w₀ w → v ≡ (input_at (k + 1) t).usage
    → Wrote (input_usage (get_or (inputs_of t) k blank_input)) w₀ w
input-used t k h a e = rw (e, input-place t k h) at a

relay-used : (t : Board) (k : ℕ) → k < 8 → {v : ℕ} {w₀ w : Writer} → Wrote (bytes_of 8 v) w₀ w → v ≡ (relay_at (k + 1) t).usage
    → Wrote (relay_usage (get_or (relays_of t) k blank_relay)) w₀ w
relay-used t k h a e = rw (e, relay-place t k h) at a

pub loop-k-init : goal.loop-k-init
loop-k-init c = begin

pub loop-k-preserved : goal.loop-k-preserved
unfolding inputs_of
loop-k-preserved c = let h = c.loop-k-test.true in
    turn blank_input c.loop-k.invariant h (input-used c.args.board.now c.loop-k.k h c.u64.ensures (cc))

pub loop-k-2-init : goal.loop-k-2-init
loop-k-2-init c = begin

pub loop-k-2-preserved : goal.loop-k-2-preserved
unfolding relays_of
loop-k-2-preserved c = let h = c.loop-k-2-test.true in
    turn blank_relay c.loop-k-2.invariant h (relay-used c.args.board.now c.loop-k-2.k h c.u64-in-loop-k-2.ensures (cc))

pub returns : goal.returns
unfolding rows inputs_of relays_of usages_reply
returns c =
    let wrote = then c.u8.ensures (then (end c.loop-k.invariant c.loop-k-test.false) (then (end c.loop-k-2.invariant c.loop-k-2-test.false)
    (rw c.clock.ensures at c.u64-2.ensures))) in
    sent (omega arith) (lit≤ tt) c.new-writer.ensures.bytes c.new-writer.ensures.place wrote (search rules) refl
