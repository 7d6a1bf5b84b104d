-- The counts stay within 01's range, whatever events happen and whatever messages come: what the width of their word does not say.
--     counts-at-power-up, counts-after-event, counts-after-message
use mathlib.Core.Path.{◌≡◌, refl, sym, subst}
use mathlib.Core.Bool.{Bool, true, false, cond, not, ◌&&◌}
use mathlib.Core.List.{List, [], ◌∷◌}
use Prim.Native.Nat.{ℕ, zero, suc, ◌+◌, ◌-◌, ◌≤◌, ◌<◌, min, zero-le}
use native.Mathlib.Omega.{arith}
use lib.Dec.{eqb, ltb}
use lib.ListN.{length, set, replicate}
use lib.Seq.{get_or-set_other}
use Rattle.laws.proofs.Tests.{by_cases}
use Rattle.words.proofs.Laws.{Bytes, number_lt}
use Rattle.steps.specs.Cut.{Got, keep_alive, stray, too_long, frame}
use Rattle.std.specs.Prelude.{Result, Ok, Err}
use Rattle.refusals.specs.declared.Refusal.{Refusal}
use Rattle.orders.specs.declared.Order.{Order}
use Rattle.orders.specs.declared.Order.TheVariants.{Clock, Monitor, Usage, MonitorOff, MonitorOn, SetClock, Close, Open, Toggle, ClearCount, ClearInputUsage, ClearRelayUsage, Block, PulseRelay, PulseBlock, Read, Write, Enumerate}
use Rattle.records.specs.declared.Input.{Input}
use Rattle.records.specs.declared.Relay.{Relay}
use Rattle.records.specs.declared.Line.{Line}
use Rattle.records.specs.Records.{is_on, word, state_word, usage_word, external_word, input_in, line_in, shut_line}
use Rattle.rows.specs.Places.{Board, is_channel, is_relay, is_connection, row_at, input_at, relay_at, put_input, put_relay, put_line, clock_set, on_rows}
use Rattle.rows.specs.Places.{input_place, relay_place, line_place, first_input, first_relay, first_outer, first_line, clock_row, queue_row, queue_of, rows, line_at}
use Rattle.rows.proofs.Channel.{in-range, channel}
use Rattle.modules.specs.declared.Moved.{Moved}
use Rattle.modules.specs.Modules.{present, has_module}
use Rattle.devices.specs.declared.Device.{Device}
use Rattle.devices.specs.declared.Device.TheVariants.{Input as input, Relay as relay}
use Rattle.std.specs.Prelude.{Option, Some, None}
use Rattle.laws.specs.Bits.{has_flag, bit_of}
use Rattle.devices.specs.Devices.{device_of}
use Rattle.tables.specs.Time.{grown, usage_passed, passed}
use Rattle.changes.specs.Answers.{moved_of, on_input, on_relay}
use Rattle.changes.specs.Levels.{has_level, level_of}
use Rattle.edits.specs.Edits.{raised, told, count_written, input_written, relay_fails}
use Rattle.changes.specs.Commands.{on_present}
use Rattle.blocks.specs.Blocks.{blocked_row, block_of}
use Rattle.changes.specs.Entries.{write_input, write_relay}
use Rattle.orders.specs.declared.Entry.{Entry}
use Rattle.orders.specs.Entries.{entry_of}
use Rattle.orders.specs.Orders.{order_of}
use Rattle.writes.specs.Writes.{Entered, input_size_fits, relay_size_fits, device_done, so_far, entry_noted, written_from}
use Rattle.ring.specs.declared.Pulse.{Pulse}
use Rattle.pulses.specs.Pulses.{short_row}
use Rattle.ring.specs.Ring.{pulse_of, relay_pulse, is_full}
use Rattle.pulses.proofs.Keeping.{Keeps, elapsed-keeps, accepted-keeps}
use Rattle.marks.specs.Marks.{watches, marked_row, any_moved, marked, external_cleared}
use Rattle.plain.specs.Events.{leveled, time_passed, monitors_sent}
use Rattle.serving.specs.Obeying.{monitor_set, clock_told, pulsed, pulsed_relay, obeyed}
use Rattle.serving.specs.Serving.{served_order, served_content, served_message}
use Rattle.powerup.specs.declared.Settings.{Settings}
use Rattle.powerup.specs.PowerUp.{powered_up}
use Rattle.register.specs.Box.{Event, level, pass, connect, close, collect, fill, empty, Tables, happens}
use Rattle.register.specs.Laws.{CountsFit, InBytes}
use Rattle.register.proofs.Filling.{Fills, filled_keeps, emptied-keeps}
use Rattle.register.proofs.Cases.{frame-cases, connect-cases, close-cases, collect-cases}

abbrev most : ℕ
most = 4294967295

-- what a row says of a count, if it is an input's
abbrev count_in : List ℕ → ℕ
count_in row = (input_in row).count

-- ---- what is written into the word that a count stands in

flag_small : (b : Bool) → cond b 1 0 ≤ most
flag_small true = omega arith
flag_small false = omega arith

raised-small : (before after : Bool) (n : ℕ) → n ≤ most → raised before after n ≤ most
raised-small before after n h = go (not before && after)
  where
    go : (t : Bool) → cond t (min (n + 1) 4294967295) n ≤ most
    go true = omega arith
    go false = h

written_small : (flags count was : ℕ) → count ≤ most → was ≤ most → count_written flags count was ≤ most
written_small flags count was h k = go (has_flag flags 2) (has_flag flags 1)
  where
    go : (t u : Bool) → cond t count (cond u 0 was) ≤ most
    go true u = h
    go false true = zero-le
    go false false = k

mark-small : (due external : Bool) (row : List ℕ) → count_in row ≤ most → count_in (marked_row due external row) ≤ most
unfolding marked_row
mark-small due external row h = by_cases (watches (line_in row)) (λ q. rw q h) (λ q. rw q h)

block-small : (mask state k : ℕ) (row : List ℕ) → count_in row ≤ most → count_in (blocked_row mask state k row) ≤ most
unfolding blocked_row
block-small mask state k row h = by_cases (bit_of mask k) (λ q. rw q h) (λ q. rw q h)

usage-alone : (d : ℕ) (row : List ℕ) → count_in row ≤ most → count_in (usage_passed d row) ≤ most
unfolding usage_passed
usage-alone d row h =
    by_cases (is_on (word state_word row)) (λ q. rw (q, get_or-set_other row usage_word 2 (grown (word usage_word row) d) 0 (λ e. omega arith)) h) (λ q. rw q h)

-- so of every row of an input, which is to say of every input
record Fit (b : Board) : Type 0 where
  pub row : (j : ℕ) → j < first_relay → count_in (row_at j b) ≤ most

inputs-fit : {b : Board} → Fit b → CountsFit b
unfolding input_at
inputs-fit {b} f = record { at = λ k. by_cases (is_channel k) (λ h. rw h (f.row (input_place k) (omega (arith, in-range k refl h)))) (λ h. rw h zero-le) }

rows_fit : {b : Board} → CountsFit b → Fit b
unfolding input_at
rows_fit {b} c = record { row = at_row }
  where
    at_row : (j : ℕ) → j < first_relay → count_in (row_at j b) ≤ most
    at_row j h = subst (λ (i : ℕ). count_in (row_at i b) ≤ most) {x = input_place (j + 1)} {y = j} (omega arith) (rw (channel j h) at (c.at (j + 1)))

-- ---- rows

set-row : (b : Board) (n j : ℕ) (r : List ℕ) → count_in r ≤ most → count_in (row_at j b) ≤ most → count_in (row_at j (set b n r)) ≤ most
set-row [] n j r h f = f
set-row (row ∷ b) zero zero r h f = h
set-row (row ∷ b) zero (suc j) r h f = f
set-row (row ∷ b) (suc n) zero r h f = f
set-row (row ∷ b) (suc n) (suc j) r h f = set-row b n j r h f

on-rows : (from n j : ℕ) (f : ℕ → List ℕ → List ℕ) (b : Board) → ((k : ℕ) (row : List ℕ) → count_in row ≤ most → count_in (f k row) ≤ most)
    → count_in (row_at j b) ≤ most → count_in (row_at j (on_rows from n f b)) ≤ most
unfolding on_rows
on-rows from n j f [] h e = e
on-rows zero zero j f (row ∷ b) h e = e
on-rows zero (suc n) zero f (row ∷ b) h e = h 0 row e
on-rows zero (suc n) (suc j) f (row ∷ b) h e = on-rows zero n j (λ k. f (suc k)) b (λ k. h (suc k)) e
on-rows (suc from) n zero f (row ∷ b) h e = e
on-rows (suc from) n (suc j) f (row ∷ b) h e = on-rows from n j f b h e

stores : (n : ℕ) (r : List ℕ) (b : Board) → count_in r ≤ most → Fit b → Fit (set b n r)
stores n r b h f = record { row = λ j l. set-row b n j r h (f.row j l) }

changes : (from n : ℕ) (f : ℕ → List ℕ → List ℕ) (b : Board) → ((k : ℕ) (row : List ℕ) → count_in row ≤ most → count_in (f k row) ≤ most) → Fit b
    → Fit (on_rows from n f b)
changes from n f b h e = record { row = λ j l. on-rows from n j f b h (e.row j l) }

-- a row behind those of the inputs
behind-fits : (n : ℕ) (r : List ℕ) (b : Board) → first_relay ≤ n → Fit b → Fit (set b n r)
behind-fits n r b h f =
    record { row = λ j l. subst (λ (row : List ℕ). count_in row ≤ most) (sym (get_or-set_other b n j r [] (λ e. omega arith))) (f.row j l) }

-- ---- records

module _ (b : Board) (f : Fit b) where
  input-fits : (k : ℕ) (i : Input) → i.count ≤ most → Fit (put_input k i b)
  unfolding put_input
  input-fits k i h = by_cases (is_channel k) (λ q. rw q (stores (input_place k) _ b h f)) (λ q. rw q f)

  relay-fits : (k : ℕ) (r : Relay) → Fit (put_relay k r b)
  unfolding put_relay
  relay-fits k r = by_cases (is_relay k) (λ q. rw q (behind-fits (relay_place k) _ b (omega arith) f)) (λ q. rw q f)

  line-fits : (c : ℕ) (l : Line) → Fit (put_line c l b)
  unfolding put_line
  line-fits c l = by_cases (is_connection c) (λ q. rw q (stores (line_place c) _ b (flag_small l.monitor) f)) (λ q. rw q f)

  clock-fits : (v : ℕ) → Fit (clock_set v b)
  unfolding clock_set
  clock-fits v = behind-fits clock_row _ b (omega arith) f

  -- ---- changes

  on-input : (g : Input → Input) (k : ℕ) → ((input_at k b).count ≤ most → (g (input_at k b)).count ≤ most) → Fit (on_input g k b).board
  unfolding on_input
  on-input g k h = by_cases (is_channel k) (λ q. rw q (input-fits k (g (input_at k b)) (h ((inputs-fit f).at k)))) (λ q. rw q f)

  on-relay : (there : Bool) (g : Relay → Relay) (k : ℕ) → Fit (on_relay there g k b).board
  unfolding on_relay
  on-relay true g k = relay-fits k (g (relay_at k b))
  on-relay false g k = f

  on-present : (g : Relay → Relay) (k : ℕ) → Fit (on_present g k b).board
  unfolding on_present
  on-present g k = on-relay (present k b) g k

  level-fits : (k v : ℕ) → Fit (level_of k v b).board
  unfolding level_of told
  level-fits k v =
      by_cases (ltb 1 v) (λ h. rw h f)
      (λ h. rw h (by_cases (has_level k (eqb v 1) b) (λ q. rw q f)
      (λ q. rw q (on-input (told (eqb v 1)) k (raised-small (input_at k b).level (eqb v 1) (input_at k b).count)))))

  device-fits : (d : Option Device) (e : Entry) → e.count ≤ most → Fit (device_done d e b).board
  unfolding device_done write_input write_relay input_written
  device-fits (Some (input k)) e h =
      by_cases (input_size_fits e.size e.flags)
      (λ p. rw p (by_cases (ltb 7 e.flags) (λ q. rw q f)
      (λ q. rw q (on-input (input_written e.flags e.count) k (written_small e.flags e.count (input_at k b).count h)))))
      (λ p. rw p f)
  device-fits (Some (relay k)) e h =
      by_cases (relay_size_fits e.size e.flags)
      (λ p. rw p (by_cases (relay_fails e.flags e.state) (λ q. rw q f) (λ q. rw q (on-relay (is_channel k) _ k))))
      (λ p. rw p f)
  device-fits None e h = f

  marks-fit : (moved : Moved) → Fit (marked moved b)
  unfolding marked
  marks-fit moved =
      by_cases (any_moved moved)
      (λ t. rw t (changes first_line 4 (λ _. marked_row moved.inner (has_module b)) b (λ k. mark-small moved.inner (has_module b)) f))
      (λ n. rw n f)

  cleared-fits : Fit (external_cleared b)
  unfolding external_cleared
  cleared-fits =
      changes first_line 4 (λ _ row. set row external_word 0) b
      (λ k row h. subst (λ (n : ℕ). n ≤ most) (sym (get_or-set_other row external_word 2 0 0 (λ e. omega arith))) h) f

-- the entries of a WriteDevices message, whose counts have four bytes
written-fits : (content : List ℕ) → Bytes content → (at n : ℕ) (w : Entered) → Fit w.board → Fit (written_from content at n w).board
unfolding written_from
written-fits content h at zero w f = f
written-fits content h at (suc n) w f =
    let e : Entry = entry_of content at in
    let small : e.count ≤ most = omega (arith, number_lt content (at + 11) 4 h) in
    written-fits content h e.next n (entry_noted content at w) (device-fits w.board f (device_of e.id) e small)

-- ---- events and messages

time-fits : (d : ℕ) (b : Board) → Fit b → Fit (passed d b)
unfolding passed
time-fits d b f =
    let n : ℕ = first_outer - first_input in
    clock-fits (on_rows first_input n (λ _. usage_passed d) b) (changes first_input n (λ _. usage_passed d) b (λ k. usage-alone d) f) _

block-fits : (mask states : ℕ) (b : Board) → Fit b → Fit (block_of mask states b).board
unfolding block_of
block-fits mask states b f = changes first_relay 16 (blocked_row mask states) b (λ k. block-small mask states k) f

pulses-fit : Keeps Fit
pulses-fit =
    record {
      time = time-fits;
      change = block-fits;
      marks = λ changed b f. marks-fit b f changed;
      store = λ row b. behind-fits queue_row row b (omega arith);
    }

pulsed-fits : (p : Pulse) (b : Board) → Fit b → Fit (pulsed p b).board
unfolding pulsed
pulsed-fits p b f = by_cases (is_full (queue_of b)) (λ e. rw e f) (λ e. rw e (accepted-keeps pulses-fit p b f))

places-fit : Fills Fit
places-fit =
    record {
      change = block-fits;
      place = λ n row b h. behind-fits n row b (omega (arith, h));
      marks = λ moved b f. marks-fit b f moved;
      clears = cleared-fits;
    }

relay-pulsed : (k ms : ℕ) (b : Board) → Fit b → Fit (pulsed_relay k ms b).board
unfolding pulsed_relay
relay-pulsed k ms b f = by_cases (present k b) (λ t. rw t (pulsed-fits (relay_pulse k ms) b f)) (λ n. rw n f)

event-fits : (e : Event) (t : Tables) → Fit t.board → Fit (happens e t).board
unfolding leveled time_passed monitors_sent
event-fits (level k v) t f = marks-fit (level_of k v t.board).board (level-fits t.board f k v) (moved_of (level_of k v t.board).outcome)
event-fits (pass d) t f =
    by_cases (short_row (length t.row)) (λ s. rw s f) (λ s. rw s (elapsed-keeps pulses-fit t.row d t.board f))
event-fits (connect c rank strict) t f = connect-cases c t.board rank strict (λ d. Fit d.board) f f f (λ u. line-fits t.board f c _)
event-fits (close c) t f = close-cases c t.board (λ d. Fit d.board) f (λ u. line-fits t.board f c shut_line)
event-fits (collect c room) t f = collect-cases c t.board room (λ d. Fit d.board) f f f (λ v. line-fits t.board f c _)
event-fits (fill place) t f = filled_keeps places-fit (length t.row) place t.board f
event-fits (empty place) t f = emptied-keeps places-fit (length t.row) place t.board f

obeyed-fits : (c : ℕ) (s : List ℕ) → Bytes s → (o : Order) (b : Board) → Fit b → Fit (obeyed c s o b).board
unfolding obeyed monitor_set clock_told
obeyed-fits c s h Clock b f = f
obeyed-fits c s h Monitor b f = f
obeyed-fits c s h Usage b f = f
obeyed-fits c s h MonitorOff b f = line-fits b f c _
obeyed-fits c s h MonitorOn b f = line-fits b f c _
obeyed-fits c s h (SetClock v) b f = clock-fits b f v
obeyed-fits c s h (Close k) b f = marks-fit _ (on-present b f _ k) _
obeyed-fits c s h (Open k) b f = marks-fit _ (on-present b f _ k) _
obeyed-fits c s h (Toggle k) b f = marks-fit _ (on-present b f _ k) _
obeyed-fits c s h (ClearCount k) b f = marks-fit _ (on-input b f _ k (λ q. zero-le)) _
obeyed-fits c s h (ClearInputUsage k) b f = marks-fit _ (on-input b f _ k (λ q. q)) _
obeyed-fits c s h (ClearRelayUsage k) b f = marks-fit _ (on-relay b f (is_channel k) _ k) _
obeyed-fits c s h (Block mask state) b f = marks-fit _ (block-fits mask state b f) _
obeyed-fits c s h (PulseRelay k ms) b f = relay-pulsed k ms b f
obeyed-fits c s h (PulseBlock mask states ms) b f = pulsed-fits (pulse_of mask states ms) b f
obeyed-fits c s h (Read n) b f = f
obeyed-fits c s h (Write n) b f = marks-fit _ (written-fits s h 3 n (so_far b 0 false) f) _
obeyed-fits c s h (Enumerate flags) b f = f

order-fits : (c : ℕ) (s : List ℕ) → Bytes s → (o : Result Order Refusal) (b : Board) → Fit b → Fit (served_order c s o b).board
order-fits c s h (Ok o) b f = obeyed-fits c s h o b f
order-fits c s h (Err refusal) b f = f

message-fits : (c : ℕ) (g : Got) (b : Board) → InBytes g → Fit b → Fit (served_message c g b).board
unfolding served_message served_content
message-fits c keep_alive b h f = f
message-fits c stray b h f = f
message-fits c too_long b h f = f
message-fits c (frame sum s) b h f = frame-cases c sum s b (λ d. Fit d.board) (order-fits c s h (order_of s (line_at c b).rank) b f) f

-- THE LAWS
pub counts-at-power-up : (s : Settings) → CountsFit (powered_up s)
unfolding powered_up
counts-at-power-up s =
    inputs-fit (changes first_relay 8 _ _ (λ k row h. h)
    (changes first_input 8 _ _ (λ k row h. zero-le) (record { row = λ j l. rw (zeros rows j) zero-le })))
  where
    zeros : (n j : ℕ) → count_in (row_at j (replicate n (replicate 8 0))) ≡ 0
    zeros zero j = refl
    zeros (suc n) zero = refl
    zeros (suc n) (suc j) = zeros n j

pub counts-after-event : (e : Event) (t : Tables) → CountsFit t.board → CountsFit (happens e t).board
counts-after-event e t f = inputs-fit (event-fits e t (rows_fit f))

pub counts-after-message : (c : ℕ) (g : Got) (b : Board) → InBytes g → CountsFit b → CountsFit (served_message c g b).board
counts-after-message c g b h f = inputs-fit (message-fits c g b h (rows_fit f))
