-- `writers::copy_cut`: the first bytes stand there, as far as there is room.
use Rattle.std.proofs.Common.{◌∙◌, arith, sym}
use Rattle.laws.proofs.Put.{put-none}
use Rattle.writers.proofs.Writing.{cut-more, cut-skip}
use Rattle.writers.proofs.copy_cut.Goals.{then-i-room, else-i-room}
use Rattle.writers.proofs.copy_cut.Goals as goal

pub loop-i-init : goal.loop-i-init
loop-i-init c = sym (put-none c.args.at c.args.out.now)

pub loop-i-preserved : goal.loop-i-preserved
loop-i-preserved c =
    let a = c.args in
    let i = c.loop-i.i in
    elim c.if-i-room.branch [
      | then-i-room w ↦ w.out-is ∙ rw c.loop-i.invariant (cut-more a.at i a.bytes.now a.out.now c.loop-i-test.true)
      | else-i-room w ↦ w.out-is ∙ c.loop-i.invariant ∙ cut-skip a.at i a.bytes.now a.out.now (omega (arith, w.if-i-room, c.requires))
    ]
