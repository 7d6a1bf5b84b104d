-- What a reader may say aloud of the changes.
--     same-level      telling an input the level that it has changes nothing, whatever words stand in the board
use mathlib.Core.Path.{◌≡◌, refl}
use mathlib.Core.Bool.{Bool, true, false, beq}
use Prim.Native.Nat.{ℕ, ◌≤◌}
use lib.Dec.{eqb}
use borrow.Author.Tests.{le-ltb}
use Rattle.rows.specs.Places.{Board, is_channel, input_at}
use Rattle.modules.specs.Modules.{unmoved}
use Rattle.changes.specs.Answers.{served}
use Rattle.changes.specs.Levels.{level_of}

itself : (b : Bool) → beq b b ≡ true
itself true = refl
itself false = refl

pub same-level : (k v : ℕ) (t : Board) → is_channel k ≡ true → v ≤ 1 → eqb v 1 ≡ (input_at k t).level → level_of k v t ≡ served unmoved t
unfolding level_of
same-level k v t h l e = rw (le-ltb 1 v l, h, e, itself (input_at k t).level)
