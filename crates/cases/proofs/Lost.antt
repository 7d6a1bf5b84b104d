-- The versions that were lost do not meet what the box meets.
--     shut-out-half, shut-out-three    each network read taken as one message: half a message, and three in one read
--     shut-out-widened                 bytes widened with their sign; unwidened: the box's reading keeps the law that refutes it
--     shut-out-uncounting              counts dropped at a clock setting
--     shut-out-shared                  one half-read store for all
-- Nor do two more, which are not among the lost.
--     shut-out-muted                   the sender's answer dropped
--     shut-out-keeping                 an old half-read message kept at a closing and the next opening
-- Where a connection takes bytes, the first and the muted are told at one call, from every state; the others on one run from power-up.
use mathlib.Core.Path.{◌≡◌, refl, sym, ap, ◌∙◌}
use mathlib.Core.List.{List, [], ◌∷◌}
use mathlib.Core.Option.{none}
use Prim.Native.Nat.{ℕ}
use native.Mathlib.Omega.{arith}
use lib.Dec.{lit≤}
use lib.ListN.{get_or, replicate}
use Rattle.answers.specs.Calls.{frames_of}
use Rattle.modules.specs.Modules.{filled}
use Rattle.laws.specs.Put.{put}
use Rattle.steps.specs.Steps.{step_of, first_of, after_of}
use Rattle.framing.specs.Reading.{room_of, run_of}
use Rattle.rows.specs.Places.{line_at, put_line, on_rows, queue_of, input_at, put_input, clock_set}
use Rattle.connections.specs.Lines.{opened_line, connected, closed}
use Rattle.serving.specs.Serving.{served_message, served_content}
use Rattle.ring.specs.Ring.{row_after}
use Rattle.powerup.specs.PowerUp.{powered_up}
use Rattle.halves.specs.Halves.{Halves, half_at, put_half}
use Rattle.pieces.specs.Pieces.{bytes_call, halves_after, rooms_after}
use Rattle.demand.specs.Demand.{Call, Answer, trace, Demand3, Said, waits, refused, did, bytes, final}
use Rattle.register.specs.Box.{served, Held, at_power_up, run, Reply, Tables, refusal_of, tables_of, ends}
use Rattle.words.specs.Words.{value_of, fits, number_at}
use Rattle.words.proofs.Laws.{value-of-bytes}
use Rattle.steps.specs.Cut.{need, whole, cuts, messages}
use Rattle.changes.specs.Answers.{on_input}
use Rattle.edits.specs.Edits.{told}
use Rattle.changes.specs.Levels.{level_of}
use Rattle.layouts.specs.Layouts.{onward, finished}
use Rattle.orders.specs.Judges.{of_reach, if_sized, judge_set_clock}
use Rattle.orders.specs.Orders.{set_clock_of, order_of}
use Rattle.marks.specs.Marks.{marked_row, marked}
use Rattle.plain.specs.Events.{leveled}
use Rattle.serving.specs.Obeying.{clock_told, obeyed, follows_it}
use Rattle.demand.proofs.Empty.{one-owed}
use Rattle.cases.specs.Starred.{settings, no_pulses}
use Rattle.cases.specs.Lost.{box_with, numbers, as_one, half, three, ReadsBack, widened_of, uncounting_call, clocking, shared_call, crossing, muted_call, keeping_call, reopening}
use Rattle.register.proofs.BoxDemand.{box-determined}

-- AT ONE CALL. Whether an answer says that a message was answered (1) or not (0)
abbrev answers : Said Reply → ℕ
answers waits = 0
answers (refused r) = 0
answers (did r) = 1

module _ (t : Tables) (c room : ℕ) (e : refusal_of t c room ≡ none) where
  pub shut-out-half : Demand3 served as_one t (bytes c room half ∷ []) → ⊥
  unfolding messages cuts whole need
  shut-out-half D =
      let a : ◌≡◌ {A = ℕ} 1 0 = ap (λ (a : Answer served). answers a.said) (rw e at (one-owed served as_one t (bytes c room half) D)) in
      omega arith

  pub shut-out-three : Demand3 served as_one t (bytes c room three ∷ []) → ⊥
  unfolding messages cuts whole need
  shut-out-three D =
      let a : ◌≡◌ {A = ℕ} 3 1 = ap (λ (a : Answer served). a.taken) (rw e at (one-owed served as_one t (bytes c room three) D)) in
      omega arith

pub shut-out-muted : (x : Held) (c room : ℕ) → refusal_of (tables_of x) c room ≡ none
    → Demand3 served (box_with muted_call) x (bytes c room (0x06 ∷ []) ∷ []) → ⊥
unfolding messages cuts whole need
shut-out-muted x c room e D =
    let a : ◌≡◌ {A = ℕ} 0 1 = ap (λ (a : Answer served). answers a.said) (rw e at (one-owed served (box_with muted_call) x (bytes c room (0x06 ∷ [])) D)) in
    omega arith

-- BY THE LAW OF WORDS
pub unwidened : ReadsBack value_of
unwidened = value-of-bytes

pub shut-out-widened : ReadsBack widened_of → ⊥
shut-out-widened R =
    let a : ◌≡◌ {A = ℕ} 4294967168 128 = R 1 128 (lit≤ tt) in
    omega arith

-- ON ONE RUN, from power-up
abbrev halves : Halves
halves = replicate 4 (replicate 3 0)

abbrev rooms : List ℕ
rooms = replicate 4096 0

abbrev up : Held
up = at_power_up settings halves rooms no_pulses

module _ (call : Held → Call served → Held × Answer served) (calls : List (Call served)) (D : Demand3 served (box_with call) up calls) where
  -- a version that meets the demand on a run has the box's numbers there, and comes to its tables
  same_numbers : numbers (trace served (box_with call) up calls) ≡ numbers (run settings halves rooms no_pulses calls)
  same_numbers = ap numbers (box-determined settings halves rooms no_pulses refl refl (box_with call) up calls refl D).0

  same_tables : tables_of (final served (box_with call) up calls) ≡ tables_of (ends settings halves rooms no_pulses calls)
  same_tables = (box-determined settings halves rooms no_pulses refl refl (box_with call) up calls refl D).1

-- input 1's count
abbrev count_one : Tables → ℕ
count_one t = (input_at 1 t.board).count

box-clocking : count_one (tables_of (ends settings halves rooms no_pulses clocking)) ≡ 1
unfolding put fits number_at step_of first_of after_of room_of run_of input_at line_at put_input put_line clock_set on_rows on_input told level_of
    judge_set_clock if_sized of_reach onward finished set_clock_of order_of marked_row marked opened_line leveled connected clock_told obeyed
    served_content served_message powered_up half_at put_half bytes_call follows_it frames_of filled
box-clocking = refl

uncounting-clocking : count_one (tables_of (final served (box_with uncounting_call) up clocking)) ≡ 0
unfolding put fits number_at step_of first_of after_of room_of run_of input_at line_at put_input put_line clock_set on_rows on_input told level_of
    judge_set_clock if_sized of_reach onward finished set_clock_of order_of marked_row marked opened_line leveled connected clock_told obeyed
    served_content served_message powered_up half_at put_half bytes_call follows_it frames_of filled
uncounting-clocking = refl

pub shut-out-uncounting : Demand3 served (box_with uncounting_call) up clocking → ⊥
shut-out-uncounting D = omega (arith, sym uncounting-clocking ∙ ap count_one (same_tables uncounting_call clocking D) ∙ box-clocking)

-- the answer number of the call at place i of a run, of the box and of a version of it
abbrev box_number : ℕ → List (Call served) → ℕ
box_number i calls = get_or (numbers (run settings halves rooms no_pulses calls)) i 0

abbrev number_with : (Held → Call served → Held × Answer served) → ℕ → List (Call served) → ℕ
number_with call i calls = get_or (numbers (trace served (box_with call) up calls)) i 0

same_number : (call : Held → Call served → Held × Answer served) (i : ℕ) (calls : List (Call served)) → Demand3 served (box_with call) up calls
    → number_with call i calls ≡ box_number i calls
same_number call i calls D = ap (λ (ns : List ℕ). get_or ns i 0) (same_numbers call calls D)

box-crossing : box_number 3 crossing ≡ 2
unfolding put step_of first_of after_of room_of run_of line_at put_line on_rows opened_line connected served_message powered_up half_at put_half bytes_call
    halves_after rooms_after row_after queue_of filled
box-crossing = refl

shared-crossing : number_with shared_call 3 crossing ≡ 0
unfolding put step_of first_of after_of room_of run_of line_at put_line on_rows opened_line connected served_message powered_up half_at put_half bytes_call
    halves_after rooms_after row_after queue_of filled
shared-crossing = refl

pub shut-out-shared : Demand3 served (box_with shared_call) up crossing → ⊥
shut-out-shared D = omega (arith, sym shared-crossing ∙ same_number shared_call 3 crossing D ∙ box-crossing)

box-reopening : box_number 4 reopening ≡ 2
unfolding put step_of first_of after_of room_of run_of line_at put_line on_rows opened_line connected closed served_message powered_up half_at
    put_half bytes_call halves_after rooms_after row_after queue_of filled
box-reopening = refl

keeping-reopening : number_with keeping_call 4 reopening ≡ 0
unfolding put step_of first_of after_of room_of run_of line_at put_line on_rows opened_line connected closed served_message powered_up half_at
    put_half bytes_call halves_after rooms_after row_after queue_of filled
keeping-reopening = refl

pub shut-out-keeping : Demand3 served (box_with keeping_call) up reopening → ⊥
shut-out-keeping D = omega (arith, sym keeping-reopening ∙ same_number keeping_call 4 reopening D ∙ box-reopening)
