-- `serving::serve_order`.
use Prim.Native.Nat.{◌≤◌, ◌-◌}
use native.Mathlib.Nat.{le_trans}
use native.Mathlib.Omega.{arith}
use lib.ListN.{length, take, drop}
use Rattle.serving.specs.Obeying.{obeyed}
use Rattle.serving.proofs.Lengths.{reply-short}
use Rattle.serving.proofs.Following.{followed}
use Rattle.answers.proofs.Replying.{part-long, given_back, sealed-does}
use Rattle.serving.proofs.serve_order.Goals as goal

-- the buffer behind the header is long enough for every reply
pub obey-s-requires : goal.obey-s-requires
obey-s-requires c = let l = c.args.reply.now in let h : 4091 ≤ length (take (length l - 5) (drop 5 l)) = omega (arith, part-long 5 l, c.requires) in
    (h, c.requires.1)

-- what was obeyed, with the header before the reply's content, and what goes behind it
pub returns : goal.returns
returns c = let a = c.args in let s = a.content.now in
    let b = a.board.now in
    let o = a.order in
    let w = c.obey-s.ensures in
    let g = rw c.has_module.ensures at c.follows-more.ensures in
    followed a.c s o b c.requires.1 c.requires.0 g
    (sealed-does (obeyed a.c s o b) _ a.reply.now _ _ _ _ c.requires.0 (le_trans (reply-short a.c s o b c.requires.1) (omega arith))
    w.board w.gives (given_back 5 _ a.reply.now _ w.leaves) c.seal-sealed.ensures)
    c.append-end.ensures
