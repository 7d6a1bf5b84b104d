-- What every writer of an answer leaves, and the inputs and relays that it goes through in the order of their channels. 01, Messages offered.
use Rattle.std.specs.Prelude.{◌≡◌, Bool, cond, List, [], ◌∷◌, map, ℕ, leb, length}
use Rattle.laws.specs.Put.{put}
use Rattle.words.specs.Words.{bytes_of}
use Rattle.records.specs.declared.Input.{Input}
use Rattle.records.specs.declared.Relay.{Relay}
use Rattle.rows.specs.Places.{Board, input_at, relay_at}

-- What a writer leaves and answers. Where the lent bytes are as many as the reply can need, `room`, its content vs stands at their front, the
-- bytes behind it stay as they were (01, Frame, 14), and the answer is its length; else nothing is written and the answer is 0.
pub record Sent (room : ℕ) (vs o₀ o : List ℕ) (r : ℕ) : Type 0 where
  pub bytes : o ≡ cond (leb room (length o₀)) (put 0 vs o₀) o₀
  pub len : r ≡ cond (leb room (length o₀)) (length vs) 0

-- 01, What the box holds, 1 and 2: the channels
abbrev pub all_channels : List ℕ
all_channels = 1 ∷ 2 ∷ 3 ∷ 4 ∷ 5 ∷ 6 ∷ 7 ∷ 8 ∷ []

-- 01, What the box holds, 1: the inputs in their order
unfoldable pub inputs_of : Board → List Input
inputs_of t = map (λ k. input_at k t) all_channels

-- 01, What the box holds, 2: the relays in their order
unfoldable pub relays_of : Board → List Relay
relays_of t = map (λ k. relay_at k t) all_channels

-- 01, What the box holds, 1: an input's usage has 64 bits
abbrev pub input_usage : Input → List ℕ
input_usage i = bytes_of 8 i.usage

-- 01, What the box holds, 2: a relay's
abbrev pub relay_usage : Relay → List ℕ
relay_usage r = bytes_of 8 r.usage

-- the byte of a level, a relay's state or an alarm: 1 for on, closed and alarm, else 0, as 000 has it
abbrev pub one_when : Bool → List ℕ
one_when b = cond b 1 0 ∷ []

-- 01, Messages, 1, 1, and 02, M-102, 5: a relay's state
abbrev pub relay_row : Relay → List ℕ
relay_row r = one_when r.closed
