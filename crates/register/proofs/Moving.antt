-- What changes of inputs, relays and the clock leave, for every relation of boards that a store before the connections' rows keeps.
--     Leaves    such a relation
--     on-input, on-relay, on-present, level-stays, written-stays, passed-stays, block-stays, clock-stays
use mathlib.Core.Path.{refl}
use mathlib.Core.Bool.{Bool, true, false}
use mathlib.Core.List.{List}
use Prim.Native.Nat.{ℕ, zero, suc, ◌+◌, ◌-◌, ◌≤◌, ◌<◌}
use native.Mathlib.Omega.{arith}
use lib.Dec.{eqb, ltb}
use lib.ListN.{set}
use Rattle.laws.proofs.Tests.{by_cases}
use Rattle.records.specs.declared.Input.{Input}
use Rattle.records.specs.declared.Relay.{Relay}
use Rattle.rows.specs.Places.{Board, is_channel, is_relay, input_at, relay_at, put_input, put_relay, clock_set}
use Rattle.rows.specs.Places.{on_rows, input_place, relay_place, first_input, first_relay, first_outer, first_line, clock_row}
use Rattle.rows.proofs.Channel.{in-range, relay-range}
use Rattle.devices.specs.declared.Device.{Device}
use Rattle.devices.specs.declared.Device.TheVariants.{Input as input, Relay as relay}
use Rattle.std.specs.Prelude.{Option, Some, None}
use Rattle.devices.specs.Devices.{device_of}
use Rattle.modules.specs.Modules.{present}
use Rattle.tables.specs.Time.{usage_passed, passed}
use Rattle.changes.specs.Answers.{on_input, on_relay}
use Rattle.changes.specs.Levels.{has_level, level_of}
use Rattle.changes.specs.Commands.{on_present}
use Rattle.blocks.specs.Blocks.{blocked_row, block_of}
use Rattle.changes.specs.Entries.{write_input, write_relay}
use Rattle.edits.specs.Edits.{relay_fails}
use Rattle.orders.specs.declared.Entry.{Entry}
use Rattle.orders.specs.Entries.{entry_of}
use Rattle.writes.specs.Writes.{Entered, input_size_fits, relay_size_fits, device_done, entry_noted, written_from}

pub record Leaves (G : Board → Board → Type 0) : Type 0 where
  pub same : (b : Board) → G b b
  pub then : {b b' b'' : Board} → G b b' → G b' b'' → G b b''
  pub store : (n : ℕ) (b : Board) (r : List ℕ) → n < first_line → G b (set b n r)
  pub change : (from n : ℕ) (f : ℕ → List ℕ → List ℕ) (b : Board) → from + n ≤ first_line → G b (on_rows from n f b)

module _ {G : Board → Board → Type 0} (g : Leaves G) where
  input-stays : (k : ℕ) (i : Input) (b : Board) → G b (put_input k i b)
  unfolding put_input
  input-stays k i b = by_cases (is_channel k) (λ h. rw h (g.store (input_place k) b _ (omega (arith, in-range k refl h)))) (λ h. rw h (g.same b))

  relay-stays : (k : ℕ) (r : Relay) (b : Board) → G b (put_relay k r b)
  unfolding put_relay
  relay-stays k r b = by_cases (is_relay k) (λ h. rw h (g.store (relay_place k) b _ (omega (arith, relay-range k refl h)))) (λ h. rw h (g.same b))

  pub clock-stays : (v : ℕ) (b : Board) → G b (clock_set v b)
  unfolding clock_set
  clock-stays v b = g.store clock_row b _ (omega arith)

  pub passed-stays : (d : ℕ) (b : Board) → G b (passed d b)
  unfolding passed
  passed-stays d b =
      let n : ℕ = first_outer - first_input in
      g.then (g.change first_input n (λ _. usage_passed d) b (omega arith)) (clock-stays _ (on_rows first_input n (λ _. usage_passed d) b))

  pub block-stays : (mask states : ℕ) (b : Board) → G b (block_of mask states b).board
  unfolding block_of
  block-stays mask states b = g.change first_relay 16 (blocked_row mask states) b (omega arith)

  pub on-input : (f : Input → Input) (k : ℕ) (b : Board) → G b (on_input f k b).board
  unfolding on_input
  on-input f k b = by_cases (is_channel k) (λ h. rw h (input-stays k (f (input_at k b)) b)) (λ h. rw h (g.same b))

  pub on-relay : (there : Bool) (f : Relay → Relay) (k : ℕ) (b : Board) → G b (on_relay there f k b).board
  unfolding on_relay
  on-relay true f k b = relay-stays k (f (relay_at k b)) b
  on-relay false f k b = g.same b

  pub on-present : (f : Relay → Relay) (k : ℕ) (b : Board) → G b (on_present f k b).board
  unfolding on_present
  on-present f k b = on-relay (present k b) f k b

  pub level-stays : (k v : ℕ) (b : Board) → G b (level_of k v b).board
  unfolding level_of
  level-stays k v b =
      by_cases (ltb 1 v) (λ h. rw h (g.same b))
      (λ h. rw h (by_cases (has_level k (eqb v 1) b) (λ q. rw q (g.same b)) (λ q. rw q (on-input _ k b))))

  device-stays : (d : Option Device) (e : Entry) (b : Board) → G b (device_done d e b).board
  unfolding device_done write_input write_relay
  device-stays (Some (input k)) e b =
      by_cases (input_size_fits e.size e.flags)
      (λ h. rw h (by_cases (ltb 7 e.flags) (λ q. rw q (g.same b)) (λ q. rw q (on-input _ k b))))
      (λ h. rw h (g.same b))
  device-stays (Some (relay k)) e b =
      by_cases (relay_size_fits e.size e.flags)
      (λ h. rw h (by_cases (relay_fails e.flags e.state) (λ q. rw q (g.same b)) (λ q. rw q (on-relay (is_channel k) _ k b))))
      (λ h. rw h (g.same b))
  device-stays None e b = g.same b

  pub written-stays : (content : List ℕ) (at n : ℕ) (w : Entered) → G w.board (written_from content at n w).board
  unfolding written_from
  written-stays content at zero w = g.same w.board
  written-stays content at (suc n) w =
      g.then (device-stays (device_of (entry_of content at).id) (entry_of content at) w.board)
      (written-stays content (entry_of content at).next n (entry_noted content at w))
