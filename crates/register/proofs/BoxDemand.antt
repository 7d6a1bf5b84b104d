-- Demand 3 of the box, and what follows from it.
--     box-demand-3       from power-up, whatever the calls are: tables, replies and whole answers are the plain machine's on the schedule
--     box-senders        untaken bytes offered first: the messages served are those of the bytes sent, in order, none twice, none lost
--     box-drains         a piece offered again and again is used up
--     box-apart          a connection on which no message ends changes nothing for the others
--     box-cut-anywhere   two ways of cutting the same bytes come to the same tables and replies
--     box-determined     every machine that meets demand 3 answers as the box does
--     box-untaken        what is not taken of a piece has no part in its answer
use mathlib.Core.Path.{◌≡◌, refl, sym, ap, ◌∙◌}
use mathlib.Core.Bool.{Bool, true, false, true≢false, cond}
use mathlib.Core.List.{List, [], map}
use mathlib.Core.Option.{none}
use Prim.Native.Nat.{ℕ, zero, suc}
use native.Mathlib.Omega.{arith}
use lib.ListN.{length, take, replicate}
use Rattle.records.specs.Records.{line_in, shut_line}
use Rattle.rows.specs.Places.{Board, is_connection, row_at, line_at, on_rows, line_place, first_input, first_relay, rows}
use Rattle.rows.proofs.Range.{beyond}
use Rattle.ring.specs.declared.Pulse.{Pulse}
use Rattle.connections.specs.Lines.{is_open}
use Rattle.serving.specs.Serving.{served_message}
use Rattle.powerup.specs.declared.Settings.{Settings}
use Rattle.powerup.specs.PowerUp.{powered_up}
use Rattle.halves.specs.Halves.{Halves}
use Rattle.demand.specs.Plain.{messages_of}
use Rattle.demand.specs.Demand.{Call, bytes, feeds_to, Machine, schedule, log, final, trace, Demand3}
use Rattle.demand.specs.Senders.{without, Steady, wires, quiet, OffersFirst, AllHeard, remaining, Handed, uncut, handing}
use Rattle.demand.proofs.Sending.{senders}
use Rattle.demand.proofs.Following.{determined, drains}
use Rattle.demand.proofs.Apart.{apart, untaken-unseen}
use Rattle.demand.proofs.Pouring.{cut-anywhere}
use Rattle.register.specs.Box.{served, tables, Held, tables_of, box, at_power_up, refusal_of, ends, run, onlooker}
use Rattle.register.proofs.Touching.{as-open, message-touches}
use Rattle.register.proofs.BoxCalls.{row-long}
use Rattle.register.proofs.BoxLawful.{Sound, only-open, box-meets}

-- 01, What the box holds, 5: at power-up every connection is shut, so that nothing is half read
row_zero : (n i : ℕ) → (line_in (row_at i (replicate n (replicate 8 0)))).is_open ≡ false
row_zero zero i = refl
row_zero (suc n) zero = refl
row_zero (suc n) (suc i) = row_zero n i

all-shut : (s : Settings) (c : ℕ) → is_open c (powered_up s) ≡ false
unfolding powered_up line_at
all-shut s c = go (is_connection c)
  where
    behind-all : (b : Board) (f g : ℕ → List ℕ → List ℕ) → row_at (line_place c) (on_rows first_relay 8 f (on_rows first_input 8 g b)) ≡ row_at (line_place c) b
    behind-all b f g = beyond first_relay 8 (line_place c) f (on_rows first_input 8 g b) (omega arith) ∙ beyond first_input 8 (line_place c) g b (omega arith)

    go : (t : Bool) → (cond t (line_in (row_at (line_place c) (powered_up s))) shut_line).is_open ≡ false
    go true = ap (λ (row : List ℕ). (line_in row).is_open) (behind-all (replicate rows (replicate 8 0)) _ _) ∙ row_zero rows (line_place c)
    go false = refl

-- only events open and shut connections
pub box-steady : Steady served
box-steady =
    record {
      only-open = only-open;
      same-open = λ t c g d. as-open (message-touches c g t.board).as-opened d;
      same-refusal =
          λ t c g d room. rw (as-open (message-touches c g t.board).as-opened d, row-long t.board (served_message c g t.board).board t.row);
    }

module _ (s : Settings) (hs : Halves) (rooms : List ℕ) (row : List Pulse) (four : length hs ≡ 4) (long : length rooms ≡ 4096) where
  sound-up : Sound (at_power_up s hs rooms row)
  sound-up = record { four-halves = four; four-rooms = long }

  pub box-demand-3 : (calls : List (Call served)) → Demand3 served box (at_power_up s hs rooms row) calls
  box-demand-3 = box-meets (at_power_up s hs rooms row) sound-up (λ c o. absurd (true≢false (sym o ∙ all-shut s c)))

  pub box-senders : (calls : List (Call served)) → OffersFirst served (quiet served (onlooker s hs rooms row)) (run s hs rooms row calls)
      → (c : ℕ) → AllHeard served (wires served (quiet served (onlooker s hs rooms row)) (run s hs rooms row calls)) c
  box-senders calls = senders served (onlooker s hs rooms row) (λ c. refl) (run s hs rooms row calls)

  pub box-drains : (before : List (Call served)) (c room : ℕ) (piece : List ℕ) → refusal_of (tables_of (ends s hs rooms row before)) c room ≡ none
      → remaining served box (length piece) (ends s hs rooms row before) c room piece ≡ []
  box-drains = drains served box box-steady (at_power_up s hs rooms row) box-demand-3

  pub box-apart : (d : ℕ) (calls : List (Call served)) → messages_of served d (schedule served (onlooker s hs rooms row) (run s hs rooms row calls)) ≡ []
      → (run s hs rooms row (without (feeds_to served d) calls) ≡ without (λ a. feeds_to served d a.0) (run s hs rooms row calls))
      × (tables_of (ends s hs rooms row (without (feeds_to served d) calls)) ≡ tables_of (ends s hs rooms row calls))
  box-apart d = apart served d box (at_power_up s hs rooms row) box-demand-3

  pub box-cut-anywhere : (xs ys : List (Handed served)) → map (uncut served) xs ≡ map (uncut served) ys
      → (tables_of (ends s hs rooms row (handing served box (at_power_up s hs rooms row) xs))
      ≡ tables_of (ends s hs rooms row (handing served box (at_power_up s hs rooms row) ys)))
      × (log served (run s hs rooms row (handing served box (at_power_up s hs rooms row) xs)) ≡ log served
      (run s hs rooms row (handing served box (at_power_up s hs rooms row) ys)))
  box-cut-anywhere = cut-anywhere served box-steady box (at_power_up s hs rooms row) box-demand-3

  pub box-determined : (M : Machine served) (x : M.State) (calls : List (Call served)) → M.tables x ≡ tables (powered_up s) row → Demand3 served M x calls
      → (trace served M x calls ≡ run s hs rooms row calls) × (M.tables (final served M x calls) ≡ tables_of (ends s hs rooms row calls))
  box-determined M x calls e D = determined served M box x (at_power_up s hs rooms row) calls e D (box-demand-3 calls)

  pub box-untaken : (before : List (Call served)) (c room : ℕ) (piece : List ℕ)
      → (let y : Held = ends s hs rooms row before in
      (box.call y (bytes c room (take (box.call y (bytes c room piece)).1.taken piece))).1 ≡ (box.call y (bytes c room piece)).1)
  box-untaken = untaken-unseen served box (at_power_up s hs rooms row) box-demand-3
