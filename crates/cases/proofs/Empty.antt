-- The four empty versions do not meet demand 3 of the box, where connection 0 was opened at power-up at rank 2, not strict: they are told by
-- whole frames alone.
--     shut-out-refusing       refuses every frame
--     shut-out-same-number    answers every frame with the same number
--     shut-out-same-bytes     answers every frame with the same bytes
--     shut-out-waiting        takes bytes and does nothing: it only waits
--     shut-out-starving       takes no bytes
--     shut-out-frozen         takes bytes and leaves the tables as they are
--     shut-out-nodding        serves only the first message and then nods
--     opens-so                a machine that meets the demand from power-up on comes to where these are tried, and meets it from there
--     meets-opened            so does the box itself, so that nothing is shut out for want of a machine
--     shut-out-inventing      invents a number, a length, bytes taken or a count: in anything it shows it differs from the box
use mathlib.Core.Path.{◌≡◌, refl, sym, ap, ◌∙◌}
use mathlib.Core.Bool.{Bool, true, false, true≢false}
use mathlib.Core.List.{List, [], ◌∷◌}
use mathlib.Core.Option.{none}
use Prim.Native.Nat.{ℕ}
use native.Mathlib.Omega.{arith}
use lib.ListN.{length, get_or}
use Rattle.changes.specs.Commands.{on_present}
use Rattle.answers.specs.Calls.{frames_of}
use Rattle.modules.specs.Modules.{filled, moved_at, present}
use Rattle.words.specs.Words.{fits, number_at}
use Rattle.steps.specs.Cut.{need, whole, cuts, messages, seen}
use Rattle.changes.specs.Answers.{on_relay}
use Rattle.layouts.specs.Layouts.{onward, optionally, finished}
use Rattle.orders.specs.Judges.{of_reach, in_range, if_sized, sized_request, request_known, judge_request, on_channel, action_known, judge_command}
use Rattle.orders.specs.Orders.{command_of, order_of, request_of}
use Rattle.rows.specs.Places.{relay_at, line_at, put_relay, put_line, on_rows, Board}
use Rattle.ring.specs.declared.Pulse.{Pulse}
use Rattle.connections.specs.Lines.{opened_line, is_strict, connected}
use Rattle.marks.specs.Marks.{marked_row, marked}
use Rattle.serving.specs.Obeying.{obeyed, follows_it}
use Rattle.serving.specs.Serving.{served_content, served_message}
use Rattle.powerup.specs.declared.Settings.{Settings}
use Rattle.halves.specs.Halves.{Halves}
use Rattle.powerup.specs.PowerUp.{powered_up}
use Rattle.demand.specs.Demand.{Call, bytes, other, Answer, Machine, final, trace, Meets}
use Rattle.demand.proofs.Following.{reaches}
use Rattle.demand.specs.Empty.{Waiting, Frozen, Starving, Nodding, OneFrame}
use Rattle.demand.proofs.Empty.{whole-served, not-idle, not-starving, not-frozen, not-nodding, meets_on}
use Rattle.records.specs.declared.Line.{Line}
use Rattle.records.specs.Records.{is_on}
use Rattle.pulses.specs.Pulses.{short_row}
use Rattle.demand.proofs.Taking.{rest-none}
use Rattle.register.specs.Box.{connect, Reply, reply_of, Tables, refusal_of, served, tables_of, box, at_power_up, ends, run}
use Rattle.cases.specs.Starred.{settings}
use Rattle.cases.specs.Empty.{shown, powered_tables, opened, RefusesAll, SameNumber, SameBytes}
use Rattle.register.proofs.BoxDemand.{box-steady, box-demand-3, box-determined}

-- THREE FRAMES: a toggle of relay 1, one of relay 17, which there never is, and a request for the clock
abbrev toggle : List ℕ
toggle = 0x01 ∷ 0x00 ∷ 0x04 ∷ 0xFF ∷ 0xFF ∷ 0x0A ∷ 0x03 ∷ 0x00 ∷ 0x01 ∷ []

abbrev toggle_none : List ℕ
toggle_none = 0x01 ∷ 0x00 ∷ 0x04 ∷ 0xFF ∷ 0xFF ∷ 0x0A ∷ 0x03 ∷ 0x00 ∷ 0x11 ∷ []

abbrev ask_clock : List ℕ
ask_clock = 0x01 ∷ 0x00 ∷ 0x03 ∷ 0xFF ∷ 0xFF ∷ 0x05 ∷ 0x00 ∷ 0x00 ∷ []

toggle-frame : OneFrame toggle
unfolding messages cuts whole need
toggle-frame = record { begun = refl; whole = refl }

none-frame : OneFrame toggle_none
unfolding messages cuts whole need
none-frame = record { begun = refl; whole = refl }

clock-frame : OneFrame ask_clock
unfolding messages cuts whole need
clock-frame = record { begun = refl; whole = refl }

-- what each is owed, on any board on which connection 0 has rank 2 and is not strict
module _ (p : Board) (h : (line_at 0 p).rank ≡ 2) (n : is_strict 0 p ≡ false) where
  toggle-reply : reply_of (served_message 0 (seen 1024 toggle) p) ≡ record { number = 1; place = 0; sent = [] }
  unfolding seen served_message served_content order_of command_of judge_command action_known on_channel if_sized in_range of_reach onward finished fits
      number_at obeyed on_relay follows_it frames_of on_present present moved_at
  toggle-reply = rw (h, n)

  none_number : (served_message 0 (seen 1024 toggle_none) p).answer ≡ 11
  unfolding seen served_message served_content order_of command_of judge_command action_known on_channel if_sized in_range of_reach onward finished fits
      number_at obeyed follows_it frames_of
  none_number = rw (h, n)

  clock-begins : get_or (served_message 0 (seen 1024 ask_clock) p).reply 0 0 ≡ 1
  unfolding seen served_message served_content order_of request_of judge_request request_known sized_request of_reach onward optionally finished fits number_at
      obeyed follows_it frames_of
  clock-begins = rw (h, n)

-- AFTER THE OPENING connection 0 is open at rank 2, not strict, and relay 1 open; each toggle changes that
first-line : line_at 0 (connected 0 2 0 (powered_up settings)).board ≡ opened_line 2 0 false
unfolding line_at put_line on_rows powered_up connected opened_line filled
first-line = refl

rank-two : (line_at 0 (connected 0 2 0 (powered_up settings)).board).rank ≡ 2
unfolding opened_line filled
rank-two = ap (λ (l : Line). l.rank) first-line

not-strict : is_strict 0 (connected 0 2 0 (powered_up settings)).board ≡ false
unfolding opened_line filled
not-strict = ap (λ (l : Line). is_on l.strict) first-line

abbrev closed_one : Tables → Bool
closed_one t = (relay_at 1 t.board).closed

abbrev toggled : Tables → Tables
toggled t = (served.serve t 0 (seen 1024 toggle)).0

module _ (row : List Pulse) where
  not_yet : closed_one (opened row) ≡ false
  unfolding relay_at line_at put_line on_rows powered_up connected filled
  not_yet = refl

  changes-once : closed_one (toggled (opened row)) ≡ true
  unfolding relay_at line_at put_relay put_line on_rows powered_up connected opened_line seen served_message served_content order_of command_of judge_command
      action_known on_channel if_sized in_range of_reach onward finished fits number_at obeyed on_relay marked marked_row follows_it frames_of filled on_present
      present moved_at
  changes-once = refl

  changes-twice : closed_one (toggled (toggled (opened row))) ≡ false
  unfolding relay_at line_at put_relay put_line on_rows powered_up connected opened_line seen served_message served_content order_of command_of judge_command
      action_known on_channel if_sized in_range of_reach onward finished fits number_at obeyed on_relay marked marked_row follows_it frames_of filled on_present
      present moved_at
  changes-twice = refl

-- a row of pulses that is long enough
module _ (row : List Pulse) (long : short_row (length row) ≡ false) where
  takes-bytes : refusal_of (opened row) 0 4096 ≡ none
  unfolding opened_line filled
  takes-bytes = rw (ap (λ (l : Line). l.is_open) first-line, long)

  module _ (M : Machine served) (x : M.State) (D : Meets served M x) (up : M.tables x ≡ opened row) where
    ready : refusal_of (M.tables x) 0 4096 ≡ none
    ready = rw up takes-bytes

    -- the answer to a frame that comes first
    first-reply : (m : List ℕ) → OneFrame m
        → shown (M.call x (bytes 0 4096 m)).1.said ≡ reply_of (served_message 0 (seen 1024 m) (opened row).board)
    first-reply m w = rw (ap (λ (y : Tables × Answer served). y.1) (whole-served served M x D [] 0 4096 m w.whole rest-none ready), up)

    toggle-first : shown (M.call x (bytes 0 4096 toggle)).1.said ≡ record { number = 1; place = 0; sent = [] }
    toggle-first = first-reply toggle toggle-frame ∙ toggle-reply (opened row).board rank-two not-strict

    pub shut-out-refusing : RefusesAll M x → ⊥
    shut-out-refusing R =
        omega (arith, R 0 4096 toggle (record { taking = ready; frame = toggle-frame }), ap (λ (r : Reply). r.number) toggle-first)

    pub shut-out-same-number : (n : ℕ) → SameNumber M x n → ⊥
    shut-out-same-number n S =
        omega (
          arith,
          S 0 4096 toggle (record { taking = ready; frame = toggle-frame }),
          ap (λ (r : Reply). r.number) toggle-first,
          S 0 4096 toggle_none (record { taking = ready; frame = none-frame }),
          ap (λ (r : Reply). r.number) (first-reply toggle_none none-frame),
          none_number (opened row).board rank-two not-strict,
        )

    pub shut-out-same-bytes : (bs : List ℕ) → SameBytes M x bs → ⊥
    shut-out-same-bytes bs S =
        let silent : bs ≡ [] = sym (S 0 4096 toggle (record { taking = ready; frame = toggle-frame })) ∙ ap (λ (r : Reply). r.sent) toggle-first in
        let begins-one : get_or bs 0 0 ≡ 1 =
        ap (λ (l : List ℕ). get_or l 0 0)
        (sym (S 0 4096 ask_clock (record { taking = ready; frame = clock-frame })) ∙ ap (λ (r : Reply). r.sent) (first-reply ask_clock clock-frame))
        ∙ clock-begins (opened row).board rank-two not-strict in
        omega (arith, ap (λ (l : List ℕ). get_or l 0 0) silent, begins-one)

    pub shut-out-waiting : Waiting served M x → ⊥
    shut-out-waiting I = not-idle served M x D I 0 4096 ready

    pub shut-out-starving : Starving served M x → ⊥
    shut-out-starving I = not-starving served M x D I 0 4096 ready

    pub shut-out-frozen : Frozen served M x → ⊥
    shut-out-frozen I = not-frozen served M x D I 0 4096 toggle ready toggle-frame
        (rw up (λ e. true≢false (sym (changes-once row) ∙ ap closed_one e ∙ not_yet row)))

    -- the tables after the first message
    first_done : M.tables (M.call x (bytes 0 4096 toggle)).0 ≡ toggled (opened row)
    first_done =
        ap (λ (y : Tables × Answer served). y.0) (whole-served served M x D [] 0 4096 toggle toggle-frame.whole rest-none ready) ∙ ap toggled up

    pub shut-out-nodding : (nod : Reply) → Nodding served M (M.call x (bytes 0 4096 toggle)).0 nod → ⊥
    shut-out-nodding nod N =
        not-nodding served M x D 0 4096 toggle toggle nod ready toggle-frame.whole toggle-frame
        (rw first_done (box-steady.same-refusal (opened row) 0 (seen 1024 toggle) 0 4096 ∙ takes-bytes)) N
        (rw first_done (λ e. true≢false (sym (changes-once row) ∙ sym (ap (λ (y : Tables × Reply). closed_one y.0) e) ∙ changes-twice row)))

-- at power-up, connection 0 is opened at rank 2, not strict
pub opens-so : (row : List Pulse) (M : Machine served) (x : M.State) → Meets served M x → M.tables x ≡ powered_tables settings row
    → (let y : M.State = (M.call x (other (connect 0 2 0))).0 in Meets served M y × (M.tables y ≡ opened row))
opens-so row M x D up = (meets_on served M x D (connect 0 2 0), reaches served M x D (other (connect 0 2 0) ∷ []) ∙ rw up)

-- and so the box, whatever half-read messages and rooms it is lent
pub meets-opened : (hs : Halves) (rooms : List ℕ) (row : List Pulse) → length hs ≡ 4 → length rooms ≡ 4096
    → Meets served box (ends settings hs rooms row (other (connect 0 2 0) ∷ []))
meets-opened hs rooms row four long =
    meets_on served box (at_power_up settings hs rooms row) (box-demand-3 settings hs rooms row four long) (connect 0 2 0)

-- whatever a machine shows that the box does not: an answer number, a reply's bytes or length, bytes taken; or a count in its tables
pub shut-out-inventing : (s : Settings) (hs : Halves) (rooms : List ℕ) (row : List Pulse) → length hs ≡ 4 → length rooms ≡ 4096
    → (M : Machine served) (x : M.State) → M.tables x ≡ powered_tables s row → (calls : List (Call served))
    → ((trace served M x calls ≡ run s hs rooms row calls) × (M.tables (final served M x calls) ≡ tables_of (ends s hs rooms row calls)) → ⊥)
    → Meets served M x → ⊥
shut-out-inventing s hs rooms row four long M x up calls differs D = differs (box-determined s hs rooms row four long M x calls up (D calls))
