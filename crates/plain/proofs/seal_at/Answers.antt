-- `plain::seal_at`: the part of the buffer from the header's place on is lent and sealed.
use native.Mathlib.Omega.{arith}
use Rattle.plain.proofs.Frames.{sealed-at}
use Rattle.plain.proofs.seal_at.Goals as goal

pub overflow_add-result : goal.overflow_add-result
overflow_add-result c = let f = sealed-at c.args.at c.args.n _ c.args.reply.now _ c.requires.0 c.requires.1 c.seal.ensures in
    omega (arith, c.requires, f.1)

pub returns : goal.returns
returns c =
    let f = sealed-at c.args.at c.args.n _ c.args.reply.now _ c.requires.0 c.requires.1 c.seal.ensures in
    record { wrote = f.0; value = f.1 }
