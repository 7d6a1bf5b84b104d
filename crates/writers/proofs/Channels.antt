-- An input and a relay by their place, as the loops read them.
use mathlib.Core.Path.{◌≡◌, refl}
use Prim.Native.Nat.{ℕ, ◌+◌, ◌<◌}
use lib.ListN.{get_or}
use Rattle.rows.specs.Places.{Board, input_at, relay_at}
use Rattle.records.specs.Records.{blank_input, blank_relay}
use Rattle.laws.proofs.Channels.{places}
use Rattle.writers.specs.Writers.{inputs_of, relays_of}

pub input-place : (t : Board) (k : ℕ) → k < 8 → input_at (k + 1) t ≡ get_or (inputs_of t) k blank_input
unfolding inputs_of input_at
input-place t = places (λ k. input_at (k + 1) t ≡ get_or (inputs_of t) k blank_input) refl refl refl refl refl refl refl refl

pub relay-place : (t : Board) (k : ℕ) → k < 8 → relay_at (k + 1) t ≡ get_or (relays_of t) k blank_relay
unfolding relays_of relay_at
relay-place t = places (λ k. relay_at (k + 1) t ≡ get_or (relays_of t) k blank_relay) refl refl refl refl refl refl refl refl
