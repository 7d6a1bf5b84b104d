-- `plain::write_monitor`: the content is written behind the header's place and sealed, or nothing is.
use mathlib.Core.Path.{ap, ◌∙◌}
use Prim.Native.Nat.{◌-◌, ◌≤◌}
use native.Mathlib.Omega.{arith}
use lib.ListN.{length, take, drop}
use Rattle.laws.proofs.Put.{length-put}
use Rattle.readings.specs.Readings.{monitor_reply}
use Rattle.readings.proofs.Lengths.{length-monitor}
use Rattle.answers.proofs.Replying.{part-long, given_back}
use Rattle.plain.proofs.Replying.{sent-yes}
use Rattle.plain.proofs.Frames.{framed, one-frame, no-frame}
use Rattle.plain.proofs.write_monitor.Goals as goal

pub seal_at-requires : goal.seal_at-requires
seal_at-requires c =
    let l = c.args.reply.now in
    let b = c.args.board.now in
    let h : 97 ≤ length (take (length l - 5) (drop 5 l)) = omega (arith, part-long 5 l, c.requires) in
    let w = sent-yes h c.write_monitor-n.ensures in
    let n = w.0 ∙ length-monitor b in
    let g = given_back 5 _ l _ w.1 in
    (omega (arith, n), omega (arith, n, c.requires, ap length g, length-put 5 (monitor_reply b) l))

pub returns-then-wanted : goal.returns-then-wanted
returns-then-wanted c =
    let l = c.args.reply.now in
    let b = c.args.board.now in
    let h : 97 ≤ length (take (length l - 5) (drop 5 l)) = omega (arith, part-long 5 l, c.requires) in
    let w = sent-yes h c.write_monitor-n.ensures in
    let s = c.seal_at.ensures in
    let f = framed 0 _ _ (monitor_reply b) l _ _ (omega (arith, c.requires, length-monitor b)) (given_back 5 _ l _ w.1) w.0 s.wrote s.value in
    rw c.if-wanted.true (one-frame f)

pub returns : goal.returns
returns c = rw c.if-wanted.false (no-frame 0 _)
