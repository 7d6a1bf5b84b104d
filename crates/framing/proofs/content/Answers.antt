-- `framing::content`: the part's last byte ends the message where as many bytes are there as are left of it.
use Rattle.std.proofs.Common.{◌+◌, arith}
use borrow.Author.Tests.{lt-ltb, le-ltb}
use Rattle.framing.proofs.Turns.{turn-part}
use Rattle.framing.proofs.content.Goals as goal

-- the message waits on
pub returns-then-n-left : goal.returns-then-n-left
returns-then-n-left c =
    let a = c.args in
    let n = c.min-n.result in
    turn-part a.i n a.half.got a.half.len a.half.sum a.room.now _ a.piece.now _ (omega arith) (omega arith) (omega arith) (omega arith)
    c.keep_part.ensures (rw (lt-ltb (a.half.got + n) (5 + a.half.len) (omega arith)))

-- its last byte is among them
pub returns : goal.returns
returns c =
    let a = c.args in
    let n = c.min-n.result in
    turn-part a.i n a.half.got a.half.len a.half.sum a.room.now _ a.piece.now _ (omega arith) (omega arith) (omega arith) (omega arith)
    c.keep_part.ensures (rw (le-ltb (a.half.got + n) (5 + a.half.len) (omega arith)))
