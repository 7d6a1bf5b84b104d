-- `pieces::judge_message`: a message is refused with the number of its judgement, or its content is served. How strictly it was
-- judged, `cc` looks for among what the calls ensure.
use mathlib.Core.Path.{refl, sym}
use native.Mathlib.Omega.{arith}
use lib.ListN.{length, take}
use lib.Seq.{length-take-le}
use Rattle.connections.specs.Lines.{is_strict}
use Rattle.pieces.proofs.Answering.{served-ready, judged-by, whole-fits, judged-as, refused-so}
use Rattle.pieces.proofs.judge_message.Goals as goal

-- `pieces::judge_message`: a message is refused with the number of its judgement, or its content is served.
-- the content is as long as the header said
pub slice_bounds-serve-end : goal.slice_bounds-serve-end
slice_bounds-serve-end c = sym (length-take-le _ _ (whole-fits _ _ _ _ (judged-by _ _ _ c.judge.ensures refl c.in-Ok.is)))

-- whole: served at once, since the call is ready
pub returns-in-Ok : goal.returns-in-Ok
returns-in-Ok c = let a = c.args in let b = a.board.now in
    let whole = judged-by _ _ _ {strict = is_strict c.args.c c.args.board.now} c.judge.ensures (cc) c.in-Ok.is in
    let fits = whole-fits a.len a.sum a.room.now _ whole in
    rw (
      judged-as a.len a.sum a.room.now a.c b,
      whole,
      ← served-ready a.c (take a.len a.room.now) (length a.reply.now) b c.requires.is_open c.requires.long-enough
          (omega (arith, length-take-le a.len a.room.now fits, fits, c.requires.whole_room)),
    ) c.serve.ensures

-- refused
pub returns-in-Err : goal.returns-in-Err
returns-in-Err c =
    refused-so _ _ _ _ _ (judged-by _ _ _ {strict = is_strict c.args.c c.args.board.now} c.judge.ensures (cc) c.in-Err.is) refl
    (cc)
