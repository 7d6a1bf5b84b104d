-- What is done to one input or one relay: 01, Events, 1; Messages, 10, 2; and Messages, 23, 3 to 5.
use Rattle.std.specs.Prelude.{Bool, true, false, cond, not, ◌&&◌, ◌||◌, ℕ, ◌+◌, min, eqb, ltb}
use Rattle.laws.specs.Bits.{has_flag}
use Rattle.records.specs.declared.Input.{Input}
use Rattle.records.specs.declared.Relay.{Relay}
use Rattle.records.specs.Held.{leveled, counted, input_used, switched, relay_used}
use Rattle.edits.specs.declared.InputEdit.{InputEdit}
use Rattle.edits.specs.declared.InputEdit.TheVariants as input
use Rattle.edits.specs.declared.RelayEdit.{RelayEdit}
use Rattle.edits.specs.declared.RelayEdit.TheVariants as relay

-- 01, Events, 1: a rise counts one more, up to 4294967295
abbrev pub raised : Bool → Bool → ℕ → ℕ
raised before after count = cond (not before && after) (min (count + 1) 4294967295) count

-- 01, Events, 1: an input that is told its level
unfoldable pub told : Bool → Input → Input
told on i = leveled on (counted (raised i.level on i.count) i)

-- 01, Messages, 10, 2: action 3, of one relay
abbrev pub toggled : Relay → Relay
toggled r = switched (not r.closed) r

-- 01, Messages, 23, 4: flag 2 writes the count and stands over flag 1, which resets it
abbrev pub count_written : ℕ → ℕ → ℕ → ℕ
count_written flags count was = cond (has_flag flags 2) count (cond (has_flag flags 1) 0 was)

-- 01, Messages, 23, 4: an input after an entry; flag 4 resets its usage
unfoldable pub input_written : ℕ → ℕ → Input → Input
input_written flags count i = counted (count_written flags count i.count) (input_used (cond (has_flag flags 4) 0 i.usage) i)

-- 01, Messages, 23, 5: flag 1 writes the state, 0 open and 1 closed
abbrev pub state_written : ℕ → ℕ → Bool → Bool
state_written flags state was = cond (has_flag flags 1) (eqb state 1) was

-- 01, Messages, 23, 5: a relay after an entry; flag 2 resets its usage
unfoldable pub relay_written : ℕ → ℕ → Relay → Relay
relay_written flags state r = switched (state_written flags state r.closed) (relay_used (cond (has_flag flags 2) 0 r.usage) r)

-- 01, Messages, 23, 3: a flag besides 1 and 2, or a state above 1 that is to be written
abbrev pub relay_fails : ℕ → ℕ → Bool
relay_fails flags state = ltb 3 flags || (has_flag flags 1 && ltb 1 state)

-- a level, actions 5 and 8, an entry's flags
abbrev pub input_edited : InputEdit → Input → Input
input_edited (input.Tell on) = told on
input_edited input.ClearCount = counted 0
input_edited input.ClearUsage = input_used 0
input_edited (input.Write flags count) = input_written flags count

-- actions 1, 2, 3 and 9, an entry's flags
abbrev pub relay_edited : RelayEdit → Relay → Relay
relay_edited relay.Close = switched true
relay_edited relay.Open = switched false
relay_edited relay.Toggle = toggled
relay_edited relay.ClearUsage = relay_used 0
relay_edited (relay.Write flags state) = relay_written flags state
