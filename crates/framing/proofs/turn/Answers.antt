-- `framing::turn`: a header that is there whole, or one byte.
use Rattle.std.proofs.Common.{◌≡◌, ◌+◌, rules, arith}
use Rattle.steps.specs.Cut.{two}
use Rattle.steps.specs.Steps.{after_of}
use Rattle.framing.proofs.Turns.{turn_one, turn-header}
use Rattle.framing.proofs.turn.Goals as goal

-- a header that is there whole
pub returns-then-piece-i-ge5 : goal.returns-then-piece-i-ge5
returns-then-piece-i-ge5 c =
    let a = c.args in
    let e : c.header.result ≡ after_of 4 (two a.piece.now (a.i + 1)) (two a.piece.now (a.i + 3)) = search rules in
    turn-header a.i a.half a.room.now a.piece.now c.header.result (omega arith) (omega arith) (omega arith) e

-- one byte
pub returns : goal.returns
returns c =
    let a = c.args in
    turn_one a.i a.half a.room.now _ a.piece.now c.step.result (omega arith) c.keep.ensures c.step.ensures
