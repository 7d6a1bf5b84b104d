-- `pieces::take_bytes`: the piece is fed, what is half read then is kept, and what the piece came to is answered from the room as it then is.
use mathlib.Core.Path.{◌≡◌, refl, ◌∙◌}
use lib.ListN.{length}
use Rattle.framing.specs.Reading.{Run}
use Rattle.framing.proofs.Turns.{length_run}
use Rattle.connections.proofs.Lines.{open-below}
use Rattle.halves.specs.Halves.{half_at}
use Rattle.halves.specs.Rooms.{room_at}
use Rattle.halves.proofs.Rooms.{room-long, room-again}
use Rattle.pieces.specs.Pieces.{fed}
use Rattle.pieces.proofs.Answering.{fed-as, quietly, ended_by}
use Rattle.pieces.proofs.take_bytes.Goals as goal

pub feed_part-fed-requires : goal.feed_part-fed-requires
feed_part-fed-requires c = (open-below _ _ c.requires.0, c.requires.1)

-- the message waits
pub returns-in-Waiting : goal.returns-in-Waiting
returns-in-Waiting c = let a = c.args in let ρ : Run = fed a.c a.piece.now a.halves.now a.rooms.now in
    let e = fed-as a.c a.piece.now a.halves.now a.rooms.now c.half_at.ensures c.feed_part-fed.ensures in
    record {
      answers = quietly a.c ρ a.board.now e.0 c.in-Waiting.is refl (rw c.no_reply.ensures at c.finish.ensures.value);
      halves_after = c.keep_half.ensures ∙ rw e.0;
      rooms_after = e.1;
      byte = c.finish.ensures.byte;
    }

-- a keep-alive
pub returns-in-KeepAlive : goal.returns-in-KeepAlive
returns-in-KeepAlive c = let a = c.args in let ρ : Run = fed a.c a.piece.now a.halves.now a.rooms.now in
    let e = fed-as a.c a.piece.now a.halves.now a.rooms.now c.half_at.ensures c.feed_part-fed.ensures in
    record {
      answers = quietly a.c ρ a.board.now e.0 c.in-KeepAlive.is refl (rw c.no_reply-in-KeepAlive.ensures at c.finish-in-KeepAlive.ensures.value);
      halves_after = c.keep_half.ensures ∙ rw e.0;
      rooms_after = e.1;
      byte = c.finish-in-KeepAlive.ensures.byte;
    }

-- a stray byte
pub returns-in-Stray : goal.returns-in-Stray
returns-in-Stray c = let a = c.args in let ρ : Run = fed a.c a.piece.now a.halves.now a.rooms.now in
    let e = fed-as a.c a.piece.now a.halves.now a.rooms.now c.half_at.ensures c.feed_part-fed.ensures in
    record {
      answers = quietly a.c ρ a.board.now e.0 c.in-Stray.is refl (rw c.no_reply-in-Stray.ensures at c.finish-in-Stray.ensures.value);
      halves_after = c.keep_half.ensures ∙ rw e.0;
      rooms_after = e.1;
      byte = c.finish-in-Stray.ensures.byte;
    }

-- a message has ended: it is judged from the room as `feed` left it
pub returns-in-Message : goal.returns-in-Message
returns-in-Message c = let a = c.args in let ρ : Run = fed a.c a.piece.now a.halves.now a.rooms.now in
    let e = fed-as a.c a.piece.now a.halves.now a.rooms.now c.half_at.ensures c.feed_part-fed.ensures in
    let below = open-below a.c a.board.now c.requires.0 in
    let long : length ρ.room ≡ 1024 = length_run a.piece.now 0 (half_at a.c a.halves.now) (room_at a.c a.rooms.now)
    ∙ room-long a.c a.rooms.now below c.requires.1 in
    let again = room-again a.c ρ.room a.rooms.now below c.requires.1 long in
    let w = rw (e.1, again) at c.judge_part.ensures in
    record {
      answers = ended_by a.c ρ a.board.now e.0 c.in-Message.is w c.finish-in-Message.ensures.value;
      halves_after = c.keep_half.ensures ∙ rw e.0;
      rooms_after = e.1;
      byte = c.finish-in-Message.ensures.byte;
    }
