-- An input or relay that is stored at power-up, as its row.
use mathlib.Core.Path.{◌≡◌, ◌∙◌}
use Prim.Native.Nat.{ℕ, ◌+◌, ◌<◌}
use lib.ListN.{set}
use Rattle.records.specs.declared.Input.{Input}
use Rattle.records.specs.declared.Relay.{Relay}
use Rattle.records.specs.Records.{input_words, relay_words}
use Rattle.rows.specs.Places.{Board, row_at, put_input, put_relay, input_place, relay_place}
use Rattle.rows.proofs.Channel.{channel, channel-relay}

pub input-row : (k : ℕ) (i : Input) (b b' : Board) → k < 8 → b' ≡ put_input (k + 1) i b → b' ≡ set b (input_place (k + 1)) (input_words i)
unfolding put_input
input-row k i b b' h e = e ∙ rw (channel k h)

pub relay-row : (k : ℕ) (r : Relay) (b b' : Board) → k < 8 → b' ≡ put_relay (k + 1) r b
    → b' ≡ set b (relay_place (k + 1)) (relay_words (row_at (relay_place (k + 1)) b) r)
unfolding put_relay
relay-row k r b b' h e = e ∙ rw (channel-relay (k + 1) (channel k h))
