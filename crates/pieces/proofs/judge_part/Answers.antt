-- `pieces::judge_part`: the room is a part of the rooms.
use Prim.Native.Nat.{◌+◌, ◌-◌, ◌*◌}
use native.Mathlib.Omega.{arith}
use Rattle.connections.proofs.Lines.{open-below}
use Rattle.halves.proofs.Rooms.{room-part, room-part-long}
use Rattle.pieces.proofs.judge_part.Goals as goal

pub slice_bounds-judge_message-end : goal.slice_bounds-judge_message-end
slice_bounds-judge_message-end c = omega (arith, open-below _ _ c.requires.0)

pub judge_message-requires : goal.judge_message-requires
judge_message-requires c = let a = c.args in record {
  is_open = c.requires.0;
  whole_room = room-part-long a.c (a.c * 1024 + 1024 - a.c * 1024) a.rooms.now (open-below _ _ c.requires.0) c.requires.1
      (omega arith);
  long-enough = c.requires.2;
}

pub returns : goal.returns
returns c = let a = c.args in rw (← room-part a.c (a.c * 1024 + 1024 - a.c * 1024) a.rooms.now (omega arith)) c.judge_message.ensures
