-- `framing::feed`: the piece has ended.
use Rattle.std.proofs.Common.{ap, sym, ◌∙◌}
use Rattle.framing.specs.Reading.{Run}
use Rattle.framing.proofs.Turns.{run-done}
use Rattle.framing.proofs.feed.Goals as goal

pub returns-then-piece-i : goal.returns-then-piece-i
returns-then-piece-i c =
    let l = c.loop-i in
    let e = sym (run-done l.i l.h l.room c.args.piece.now c.if-piece-i.true) ∙ l.invariant.1.1 in
    (ap (λ (r : Run). r.fed) e, ap (λ (r : Run). r.room) e)
