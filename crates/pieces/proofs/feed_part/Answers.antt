-- `pieces::feed_part`: the room is lent and given back.
use Prim.Native.Nat.{◌+◌, ◌-◌, ◌*◌}
use native.Mathlib.Omega.{arith}
use Rattle.halves.proofs.Rooms.{fed-room}
use Rattle.pieces.proofs.feed_part.Goals as goal

pub returns : goal.returns
returns c = let a = c.args in fed-room a.at (a.at * 1024 + 1024 - a.at * 1024) a.half a.rooms.now a.piece.now c.feed.new.room c.feed.result
    (omega arith) (omega arith) (omega arith) c.feed.ensures
