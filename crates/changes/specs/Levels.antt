-- The level of an input: 01, Events, 1.
use Rattle.std.specs.Prelude.{Bool, cond, ◌&&◌, ℕ, eqb, ltb}
use Rattle.std.specs.Bool.{beq}
use Rattle.rows.specs.Places.{Board, is_channel, input_at}
use Rattle.modules.specs.Modules.{unmoved}
use Rattle.edits.specs.Edits.{told}
use Rattle.changes.specs.Answers.{Change, served, refused, on_input}

-- 01, Events, 1: input k is one of the box's and has this level already
abbrev pub has_level : ℕ → Bool → Board → Bool
has_level k on t = is_channel k && beq (input_at k t).level on

-- 01, Events, 1: a level is 0 or 1; the one that the input has leaves every word; else the input is told it. A bad input or level: 11
unfoldable pub level_of : ℕ → ℕ → Board → Change
level_of k v t = cond (ltb 1 v) (refused t) (cond (has_level k (eqb v 1) t) (served unmoved t) (on_input (told (eqb v 1)) k t))
