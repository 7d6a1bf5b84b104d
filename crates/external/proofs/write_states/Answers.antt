-- `external::write_states`: a turn for each relay of the second deck.
use Rattle.std.proofs.Common.{◌≡◌, ◌+◌, sym, ◌∙◌}
use Rattle.writers.proofs.Writing.{start, begin, turn, end}
use Rattle.modules.specs.Modules.{present}
use Rattle.modules.proofs.Outputs.{deck-place}
use Rattle.external.proofs.write_states.Goals as goal
use Rattle.external.proofs.write_states.Goals.{then-is_present, else-is_present}

pub loop-k-init : goal.loop-k-init
loop-k-init c = begin

pub loop-k-preserved : goal.loop-k-preserved
loop-k-preserved c =
    let h = c.loop-k-test.true in
    let there : present (9 + c.loop-k.k) c.args.board.now ≡ c.is_present.result = sym c.is_present.ensures in
    turn 0 c.loop-k.invariant h (elim c.if-is_present.branch [
      | then-is_present w ↦ rw (w.writer-is, ← deck-place _ h, there ∙ w.if-is_present.true, ← w.relay_at.ensures) w.flag.ensures
      | else-is_present w ↦ rw (w.writer-is, ← deck-place _ h, there ∙ w.if-is_present.false) start
    ])

pub returns : goal.returns
returns c = end c.loop-k.invariant c.loop-k-test.false
