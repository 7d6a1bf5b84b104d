-- What a mask and states do to the relays of both decks: 01, Messages, 10, 3; 02, M-102, 8.
use Rattle.std.specs.Prelude.{Bool, cond, List, ℕ, ◌+◌}
use Rattle.laws.specs.Bits.{bit_of}
use Rattle.laws.specs.Each.{any_below}
use Rattle.records.specs.declared.Relay.{Relay}
use Rattle.records.specs.Records.{relay_in, relay_words}
use Rattle.records.specs.Held.{switched}
use Rattle.rows.specs.Places.{Board, relay_at, on_rows, first_relay}
use Rattle.modules.specs.declared.Moved.{Moved}
use Rattle.changes.specs.Answers.{Change, served, differ}

-- 01, Messages, 10, 3: a relay that is not chosen keeps its state
unfoldable pub masked : Bool → Bool → Relay → Relay
masked chosen state r = cond chosen (switched state r) r

-- 01, Messages, 10, 3: bit k, the lowest 0, is for channel k + 1, whose relay stands at place k
abbrev pub blocked : ℕ → ℕ → ℕ → Relay → Relay
blocked mask state k r = masked (bit_of mask k) (bit_of state k) r

-- 01, Events, 6: whether that relay's state becomes another
abbrev pub moves : ℕ → ℕ → ℕ → Relay → Bool
moves mask state k r = differ r.closed (blocked mask state k r).closed

-- 02, M-102, 4 and 6: so of the relays of each deck, eight on each
abbrev pub block_moved : ℕ → ℕ → Board → Moved
block_moved mask state t =
    record {
      inner = any_below 8 (λ k. moves mask state k (relay_at (k + 1) t));
      outer = any_below 8 (λ k. moves mask state (8 + k) (relay_at (8 + k + 1) t));
    }

-- the row of that relay: one that is not masked keeps every word
unfoldable pub blocked_row : ℕ → ℕ → ℕ → List ℕ → List ℕ
blocked_row mask state k row = cond (bit_of mask k) (relay_words row (switched (bit_of state k) (relay_in row))) row

-- 01, Messages, 10, 3: action 10, answered 1 whatever mask and state are; 02, M-102, 8: a pulse's mask has a bit for each of sixteen relays
unfoldable pub block_of : ℕ → ℕ → Board → Change
block_of mask state t = served (block_moved mask state t) (on_rows first_relay 16 (blocked_row mask state) t)
