-- `framing::keep_part`: a message that the room can hold has place there for its part.
use Rattle.std.proofs.Common.{◌≡◌, ◌+◌, ◌-◌, length, ltb, false, ◌∙◌, arith}
use borrow.Author.Tests.{le-ltb, le-leb}
use Rattle.words.specs.Words.{fits}
use Rattle.framing.proofs.keep_part.Goals as goal

pub returns-then-from-room : goal.returns-then-from-room
unfolding fits
returns-then-from-room c =
    let a = c.args in
    let holds : ltb (length a.room.now) a.half.len ≡ false = le-ltb (length a.room.now) a.half.len (omega arith) in
    c.copy.ensures.bytes ∙ rw (le-leb (a.half.got - 5 + length a.part.now) (length a.room.now) (omega arith), holds)
