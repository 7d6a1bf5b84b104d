-- `plain::append_external`: wanted and with room, the content is written behind its header's place and sealed; else nothing is.
use mathlib.Core.Path.{sym, ap, ◌∙◌}
use Prim.Native.Nat.{◌+◌, ◌-◌, ◌≤◌}
use native.Mathlib.Omega.{arith}
use borrow.Author.Tests.{leb-true}
use lib.ListN.{length, take, drop}
use Rattle.laws.proofs.Put.{length-put}
use Rattle.laws.proofs.Tests.{and_right}
use Rattle.external.specs.External.{external_reply}
use Rattle.external.proofs.Lengths.{length-external}
use Rattle.answers.proofs.Replying.{part-long, given_back}
use Rattle.plain.proofs.Replying.{sent-yes}
use Rattle.plain.proofs.Frames.{framed}
use Rattle.plain.proofs.append_external.Goals as goal

pub seal_at-requires : goal.seal_at-requires
seal_at-requires c =
    let a = c.args in
    let l = a.reply.now in
    let n = a.at + 5 in
    let room : n + 19 ≤ length l = leb-true (n + 19) (length l) (and_right a.wanted _ (sym c.has_room.ensures ∙ c.if-has_room.true)) in
    let h : 19 ≤ length (take (length l - n) (drop n l)) = omega (arith, part-long n l, room) in
    let w = sent-yes h c.write_external-n.ensures in
    let g = given_back n _ l _ w.1 in
    let b = length-external a.board.now in
    (omega (arith, w.0, b), omega (arith, w.0, b, room, ap length g, length-put n (external_reply a.board.now) l))

pub returns-then-has_room : goal.returns-then-has_room
returns-then-has_room c =
    let a = c.args in
    let l = a.reply.now in
    let n = a.at + 5 in
    let room : n + 19 ≤ length l = leb-true (n + 19) (length l) (and_right a.wanted _ (sym c.has_room.ensures ∙ c.if-has_room.true)) in
    let h : 19 ≤ length (take (length l - n) (drop n l)) = omega (arith, part-long n l, room) in
    let w = sent-yes h c.write_external-n.ensures in
    let s = c.seal_at.ensures in
    let fit : n + length (external_reply a.board.now) ≤ length l = omega (arith, room, length-external a.board.now) in
    let f = framed a.at _ _ (external_reply a.board.now) l _ _ fit (given_back n _ l _ w.1) w.0 s.wrote s.value in
    let y = sym c.has_room.ensures ∙ c.if-has_room.true in
    record { bytes = f.bytes ∙ rw y; place = f.place ∙ rw y }

pub returns : goal.returns
returns c = let n = sym c.has_room.ensures ∙ c.if-has_room.false in record { bytes = rw n; place = rw n }
