-- What a change of one input or relay answers: 01, Answer numbers, lines 1 and 11, and Events, 6.
use Rattle.std.specs.Prelude.{◌≡◌, Bool, cond, not, ℕ, Result, Ok, Err}
use Rattle.std.specs.Bool.{beq}
use Rattle.records.specs.declared.Input.{Input}
use Rattle.records.specs.declared.Relay.{Relay}
use Rattle.rows.specs.Places.{Board, is_channel, input_at, relay_at, put_input, put_relay}
use Rattle.modules.specs.declared.Moved.{Moved}
use Rattle.modules.specs.Modules.{unmoved, inner_moved, moved_at}
use Rattle.refusals.specs.declared.Refusal.{Refusal}
use Rattle.refusals.specs.declared.Refusal.TheVariants.{OutOfRange}

-- what a change comes to: the whole board then, and what really changed, a level or a relay's state (01, Events, 6), or why it is refused
pub record Change : Type 0 where
  pub board : Board
  pub outcome : Result Moved Refusal

-- the board that the call leaves, and what it gives back
pub record Makes (m : Change) (b : Board) (r : Result Moved Refusal) : Type 0 where
  pub leaves : b ≡ m.board
  pub gives : r ≡ m.outcome

-- 01, Answer numbers, 6: what really changed; where it is refused nothing did
abbrev pub moved_of : Result Moved Refusal → Moved
moved_of (Ok moved) = moved
moved_of (Err why) = unmoved

-- 01, Answer numbers, line 1: served
abbrev pub served : Moved → Board → Change
served moved t = record { outcome = Ok moved; board = t }

-- 01, Answer numbers, line 11, and 6: something is out of range, and no word of the board is another
abbrev pub refused : Board → Change
refused t = record { outcome = Err OutOfRange; board = t }

-- 01, Events, 6: a real change: the two are not equal
abbrev pub differ : Bool → Bool → Bool
differ before after = not (beq before after)

-- input k becomes what f makes of it, a real change where its level is another; a number that is no input's is refused
unfoldable pub on_input : (Input → Input) → ℕ → Board → Change
on_input f k t = cond (is_channel k) (served (inner_moved (differ (input_at k t).level (f (input_at k t)).level)) (put_input k (f (input_at k t)) t)) (refused t)

-- relay k, where there is one to which this may be done, becomes what f makes of it, a real change where its state is another; else refused
unfoldable pub on_relay : Bool → (Relay → Relay) → ℕ → Board → Change
on_relay there f k t =
    cond there (served (moved_at k (differ (relay_at k t).closed (f (relay_at k t)).closed)) (put_relay k (f (relay_at k t)) t)) (refused t)
