-- `pieces::give_bytes`: 3, then 4, then the bytes, which are taken here. What the last test told, `omega` finds.
use mathlib.Core.Path.{sym, ◌∙◌}
use native.Mathlib.Omega.{arith}
use lib.ListN.{length}
use borrow.Author.Tests.{lt-ltb, le-ltb}
use Rattle.pieces.specs.Pieces.{bytes_call}
use Rattle.pieces.proofs.Answering.{refused-call}
use Rattle.pieces.proofs.give_bytes.Goals as goal

pub returns-clause-answers : goal.returns-clause-answers
unfolding bytes_call
returns-clause-answers c =
    let a = c.args in
    rw (sym c.is_open.ensures ∙ c.if-not-is_open.false, le-ltb (length a.reply.now) 4096 (omega arith), le-ltb a.records 31 (omega arith)) c.take_bytes.ensures.answers

-- shut
pub returns-then-not-is_open-clause-answers : goal.returns-then-not-is_open-clause-answers
unfolding bytes_call
returns-then-not-is_open-clause-answers c = rw (sym c.is_open.ensures ∙ c.if-not-is_open.true) (refused-call c.refused.ensures c.finish.ensures.value)

-- a reply buffer that is too short
pub returns-then-reply-lt4096-clause-answers : goal.returns-then-reply-lt4096-clause-answers
unfolding bytes_call
returns-then-reply-lt4096-clause-answers c =
    rw (sym c.is_open.ensures ∙ c.if-not-is_open.false, lt-ltb _ _ c.if-reply-lt4096.true)
    (refused-call c.refused-then-reply-lt4096.ensures c.finish-then-reply-lt4096.ensures.value)

-- a row of pulses that is too short
pub returns-then-records-lt31-clause-answers : goal.returns-then-records-lt31-clause-answers
unfolding bytes_call
returns-then-records-lt31-clause-answers c =
    rw (sym c.is_open.ensures ∙ c.if-not-is_open.false, le-ltb _ _ c.if-reply-lt4096.false, lt-ltb c.args.records 31 (omega arith))
    (refused-call c.refused-then-records-lt31.ensures c.finish-then-records-lt31.ensures.value)
