-- The named laws of demand 2, over the definitions that the entry points' contracts cite.
--     clock-alone          a Set clock message changes the clock and nothing else
--     refused-untouched    an answer from 3 on leaves every word of the board as it was, and sends nothing
--     placed-calls         10 is never answered, and only 20, 21 and 22 have a place
--     refused-event        a refused event changes nothing at all
--     refused-piece        a piece that is refused before any byte, with 3 or 4, changes nothing at all
--     time-adds            d ms in one call are d calls of 1 ms
--     others-kept          a call on one connection leaves the other connections' halves, rooms and lines, due marks aside
use mathlib.Core.Path.{◌≡◌, refl, sym, ap, ◌∙◌}
use mathlib.Core.Bool.{Bool, true, false, true≢false, cond}
use mathlib.Core.List.{List, [], ◌∷◌}
use mathlib.Core.Option.{Option, none, some}
use Prim.Native.Nat.{ℕ, zero, suc, ◌≤◌}
use native.Mathlib.Omega.{arith}
use lib.Dec.{eqb, ltb}
use lib.ListN.{length, set}
use lib.Seq.{get_or-set_other}
use borrow.Author.Tests.{eqb-false}
use Rattle.laws.specs.Times.{times}
use Rattle.laws.specs.Put.{put}
use Rattle.laws.proofs.Put.{put-none}
use Rattle.laws.proofs.Tests.{by_cases}
use Rattle.words.specs.Words.{number_at}
use Rattle.steps.specs.Cut.{Got, frame}
use Rattle.framing.specs.Reading.{Run, got_of}
use Rattle.records.specs.Records.{word}
use Rattle.rows.specs.Places.{Board, row_at, line_at, clock_set, clock_row}
use Rattle.ring.specs.declared.Pulse.{Pulse}
use Rattle.pulses.specs.Pulses.{short_row, elapsed}
use Rattle.ring.specs.Ring.{row_after}
use Rattle.std.specs.Prelude.{Result, Ok, Err}
use Rattle.refusals.specs.declared.Refusal.{Refusal}
use Rattle.refusals.specs.declared.Refusal.TheVariants.{NotOffered, LowRank}
use Rattle.orders.specs.declared.Order.{Order}
use Rattle.orders.specs.declared.Order.TheVariants.{SetClock}
use Rattle.layouts.specs.Layouts.{fields, layout_in}
use Rattle.orders.specs.Judges.{of_reach, if_sized, judge_set_clock}
use Rattle.orders.specs.Orders.{set_clock_of, order_of}
use Rattle.marks.specs.Marks.{with_marks}
use Rattle.plain.specs.Events.{leveled, time_passed, monitors_sent, collected}
use Rattle.modules.specs.Modules.{is_place, filled}
use Rattle.filling.specs.Filling.{filled_at, emptied_at, place_answer, on_place, place_filled, place_emptied, losing, row_without}
use Rattle.connections.specs.Lines.{connected, closed}
use Rattle.answers.specs.Calls.{Did, did, refused, refused_at}
use Rattle.serving.specs.Obeying.{clock_told, obeyed}
use Rattle.serving.specs.Serving.{served_order, served_content, served_message}
use Rattle.halves.specs.Halves.{Halves}
use Rattle.pieces.specs.Pieces.{answered, fed, bytes_call}
use Rattle.board.specs.Calls.{pass_call}
use Rattle.demand.specs.Demand.{Call, bytes, other}
use Rattle.register.specs.Box.{Event, level, pass, connect, close, collect, fill, empty, Tables, happens}
use Rattle.register.specs.Box.{row_left, on, whose, served, before_bytes, Held, held, tables_of, effect_of, halves_of, box_call}
use Rattle.register.specs.Laws.{TypeSeven, ButClock, Untouched, Placed, is_of, call_on, Kept}
use Rattle.register.proofs.Cases.{frame-cases, bytes-cases, connect-cases, close-cases, collect-cases, place-cases}
use Rattle.register.proofs.Touching.{level-event, pass-event, fill-event, empty-event, collect-touches}
use Rattle.register.proofs.Numbers.{Judged, serves, refuses, unplaced, level-judged, message-judged, judged-answers, judged-placed}
use Rattle.register.proofs.BoxCalls.{row_same, bytes-touches, bytes-half-apart, bytes-room-apart, left-apart, left-refused, connect-apart, close-apart}

-- CLOCK ALONE. What a content of type 7 orders: the clock, or nothing
data ForClock : Result Order Refusal → Type 0 where
  sets : (v : ℕ) → ForClock (Ok (SetClock v))
  refuses-it : (refusal : Refusal) → ForClock (Err refusal)

seven-orders : (s : List ℕ) (rank : ℕ) → TypeSeven s → ForClock (order_of s rank)
unfolding order_of set_clock_of judge_set_clock if_sized of_reach
seven-orders s rank h = rw h (go (eqb (length s) 0) (ltb rank 2) (layout_in (length s) (fields 9 ∷ [])))
  where
    go : (none low : Bool) (reach : Result ℕ Refusal)
        → ForClock (cond none (Err NotOffered) (cond low (Err LowRank) (of_reach reach (Ok (SetClock (number_at s 1 8))))))
    go true low reach = refuses-it NotOffered
    go false true reach = refuses-it LowRank
    go false false (Ok at) = sets (number_at s 1 8)
    go false false (Err refusal) = refuses-it refusal

untimed : (b : Board) → ButClock b b
untimed b = record { rows = λ n h. refl; words = λ j h. refl }

clock-told : (v : ℕ) (b : Board) → ButClock b (clock_set v b)
unfolding clock_set
clock-told v b =
    record {
      rows = λ n h. get_or-set_other b clock_row n _ [] (eqb-false n clock_row h);
      words = λ j h. word-stays j h b clock_row;
    }
  where
    word-stays : (j : ℕ) → eqb j 0 ≡ false → (b : Board) (i : ℕ) → word j (row_at i (set b i (set (row_at i b) 0 v))) ≡ word j (row_at i b)
    word-stays j h [] i = refl
    word-stays j h (row ∷ b) zero = get_or-set_other row 0 j v 0 (eqb-false j 0 h)
    word-stays j h (row ∷ b) (suc i) = word-stays j h b i

clock-obeyed : (c : ℕ) (s : List ℕ) (o : Result Order Refusal) (b : Board) → ForClock o → ButClock b (served_order c s o b).board
unfolding obeyed clock_told
clock-obeyed c s o b (sets v) = clock-told v b
clock-obeyed c s o b (refuses-it refusal) = untimed b

clock-message : (c sum : ℕ) (s : List ℕ) (b : Board) → TypeSeven s → ButClock b (served_message c (frame sum s) b).board
unfolding served_content
clock-message c sum s b h =
    let rank : ℕ = (line_at c b).rank in
    frame-cases c sum s b (λ d. ButClock b d.board) (clock-obeyed c s (order_of s rank) b (seven-orders s rank h)) (untimed b)

-- a piece at whose end such a frame stands, on any board and any connection
pub clock-alone : (b : Board) (hs : Halves) (rooms : List ℕ) (c room records : ℕ) (piece : List ℕ) (sum : ℕ) (content : List ℕ) → TypeSeven content
    → got_of (fed c piece hs rooms).room (fed c piece hs rooms).fed.outcome ≡ some (frame sum content)
    → ButClock b (bytes_call c piece room records b hs rooms).did.board
clock-alone b hs rooms c room records piece sum content h e =
    bytes-cases c room records piece b hs rooms (λ a hs' rs. ButClock b a.did.board) (untimed b) (untimed b) (λ v. rw e (clock-message c sum content b h))

-- TIME ADDS, pulses and marks with it
pub time-adds : (d : ℕ) (row : List Pulse) (b : Board) → (pass_call d row b).did.board ≡ times d (λ (a : Board). (pass_call 1 row a).did.board) b
unfolding pass_call time_passed elapsed
time-adds d row b = by_cases (short_row (length row)) (λ s. rw s (sym (nothing-passes d))) (λ s. rw s)
  where
    nothing-passes : (n : ℕ) → times n (λ (a : Board). a) b ≡ b
    nothing-passes zero = refl
    nothing-passes (suc n) = nothing-passes n

-- REFUSED, UNTOUCHED. What was refused is known by its number
abbrev RefusedSo : Board → Did → Type 0
RefusedSo p d = 3 ≤ d.answer → d ≡ refused_at d.answer d.place p

module _ (p : Board) where
  judged-so : (d : Did) → Judged p d → RefusedSo p d
  judged-so d (serves e f) h = absurd (omega arith)
  judged-so d (refuses n place a w) h = refl

  connect-so : (c rank strict : ℕ) → RefusedSo p (connected c rank strict p)
  connect-so c rank strict = connect-cases c p rank strict (RefusedSo p) (λ h. refl) (λ h. refl) (λ h. refl) (λ u h. absurd (omega arith))

  close-so : (c : ℕ) → RefusedSo p (closed c p)
  close-so c = close-cases c p (RefusedSo p) (λ h. refl) (λ u h. absurd (omega arith))

  collect-so : (c room : ℕ) → RefusedSo p (collected c room p)
  unfolding monitors_sent
  collect-so c room = collect-cases c p room (RefusedSo p) (λ h. refl) (λ h. refl) (λ h. absurd (omega arith)) (λ v h. absurd (omega arith))

  answered-so : (c : ℕ) (o : Option Got) → RefusedSo p (answered c o p)
  answered-so c none h = absurd (omega arith)
  answered-so c (some g) h = judged-so (served_message c g p) (message-judged p c g) h

pass-so : (d : ℕ) (row : List Pulse) (p : Board) → RefusedSo p (time_passed d row p)
unfolding time_passed
pass-so d row p = go (short_row (length row))
  where
    go : (s : Bool) → RefusedSo p (cond s (refused 4 p) (did (elapsed row d p) 1 []))
    go true = λ h. refl
    go false = λ h. absurd (omega arith)

-- a place that is filled or emptied
place-so : (f : ℕ → Board → Board) (records place : ℕ) (p : Board) → RefusedSo p (on_place f records place p)
place-so f records place p = place-cases f records place p (RefusedSo p) (λ h. refl) (λ h. refl) (λ h. absurd (omega arith))

event-so : (e : Event) (t : Tables) → RefusedSo t.board (happens e t)
unfolding place_filled place_emptied
event-so (level k v) t = judged-so t.board (leveled k v t.board) (level-judged t.board k v)
event-so (pass d) t = pass-so d t.row t.board
event-so (connect c rank strict) t = connect-so t.board c rank strict
event-so (close c) t = close-so t.board c
event-so (collect c room) t = collect-so t.board c room
event-so (fill place) t = place-so filled_at (length t.row) place t.board
event-so (empty place) t = place-so emptied_at (length t.row) place t.board

bytes-so : (c room records : ℕ) (piece : List ℕ) (b : Board) (hs : Halves) (rooms : List ℕ) → RefusedSo b (bytes_call c piece room records b hs rooms).did
bytes-so c room records piece b hs rooms =
    bytes-cases c room records piece b hs rooms (λ e hs' rs. RefusedSo b e.did) (λ h. refl) (λ h. refl)
    (λ v. answered-so b c (got_of (fed c piece hs rooms).room (fed c piece hs rooms).fed.outcome))

call-so : (x : Held) (k : Call served) → RefusedSo x.board (effect_of x k).did
call-so x (bytes c room piece) = bytes-so c room (length x.row) piece x.board x.halves x.rooms
call-so x (other e) = event-so e (tables_of x)

pub refused-untouched : (x : Held) (k : Call served) → 3 ≤ (effect_of x k).did.answer → Untouched x.board (effect_of x k)
refused-untouched x k h =
    let e : (effect_of x k).did ≡ refused_at (effect_of x k).did.answer (effect_of x k).did.place x.board = call-so x k h in
    let silent : (effect_of x k).did.reply ≡ [] = ap (λ (d : Did). d.reply) e in
    record { board = ap (λ (d : Did). d.board) e; silent = silent; buffer = λ o. ap (λ (vs : List ℕ). put 0 vs o) silent ∙ put-none 0 o }

-- PLACED. Every answer but the three has the place 0, and 10 is none of them
module _ (p : Board) where
  connect-placed : (c rank strict : ℕ) → Placed (connected c rank strict p)
  connect-placed c rank strict =
      connect-cases c p rank strict Placed (unplaced refl refl) (unplaced refl refl) (unplaced refl refl) (λ u. unplaced refl refl)

  close-placed : (c : ℕ) → Placed (closed c p)
  close-placed c = close-cases c p Placed (unplaced refl refl) (λ u. unplaced refl refl)

  collect-placed : (c room : ℕ) → Placed (collected c room p)
  unfolding monitors_sent
  collect-placed c room =
      collect-cases c p room Placed (unplaced refl refl) (unplaced refl refl) (unplaced refl refl) (λ v. unplaced refl refl)

  answered-placed : (c : ℕ) (o : Option Got) → Placed (answered c o p)
  answered-placed c none = unplaced refl refl
  answered-placed c (some g) = judged-placed p (served_message c g p) (message-judged p c g)

pass-placed : (d : ℕ) (row : List Pulse) (p : Board) → Placed (time_passed d row p)
unfolding time_passed
pass-placed d row p = by_cases (short_row (length row)) (λ e. rw e (unplaced refl refl)) (λ e. rw e (unplaced refl refl))

place-placed : (f : ℕ → Board → Board) (records place : ℕ) (p : Board) → Placed (on_place f records place p)
place-placed f records place p = place-cases f records place p Placed (unplaced refl refl) (unplaced refl refl) (unplaced refl refl)

event-placed : (e : Event) (t : Tables) → Placed (happens e t)
unfolding place_filled place_emptied
event-placed (level k v) t = judged-placed t.board (leveled k v t.board) (level-judged t.board k v)
event-placed (pass d) t = pass-placed d t.row t.board
event-placed (connect c rank strict) t = connect-placed t.board c rank strict
event-placed (close c) t = close-placed t.board c
event-placed (collect c room) t = collect-placed t.board c room
event-placed (fill place) t = place-placed filled_at (length t.row) place t.board
event-placed (empty place) t = place-placed emptied_at (length t.row) place t.board

pub placed-calls : (x : Held) (k : Call served) → Placed (effect_of x k).did
placed-calls x (bytes c room piece) =
    bytes-cases c room (length x.row) piece x.board x.halves x.rooms (λ e hs rs. Placed e.did) (unplaced refl refl) (unplaced refl refl)
    (λ v. answered-placed x.board c (got_of ρ.room ρ.fed.outcome))
  where
    ρ : Run
    ρ = fed c piece x.halves x.rooms
placed-calls x (other e) = event-placed e (tables_of x)

-- REFUSED WHOLE. A refused event leaves the row too: an emptying that is refused takes no relay from any mask
lost-none : (records place : ℕ) (b : Board) → 3 ≤ place_answer records place → losing records place b ≡ 0
unfolding losing filled
lost-none records place b h =
    by_cases (short_row records)
    (λ s. rw s)
    (λ s. by_cases (is_place place)
    (λ q. absurd (not_three (rw (s, q) at h)))
    (λ q. rw (s, q)))
  where
    not_three : 3 ≤ 1 → ⊥
    not_three h = omega arith

row-refused : (e : Event) (t : Tables) → 3 ≤ (happens e t).answer → row_left e t ≡ t.row
unfolding place_emptied row_without
row-refused (level k v) t h = refl
row-refused (pass d) t h = refl
row-refused (connect c rank strict) t h = refl
row-refused (close c) t h = refl
row-refused (collect c room) t h = refl
row-refused (fill place) t h = refl
row-refused (empty place) t h = rw (lost-none (length t.row) place t.board h)

-- and drops no half-read message either
pub refused-event : (x : Held) (e : Event) → 3 ≤ (effect_of x (other e)).did.answer → (box_call x (other e)).0 ≡ x
refused-event x e h =
    let stay : halves_of x (other e) ≡ x.halves = left-refused (on e) (happens e (tables_of x)).answer x.halves h in
    λ i. held ((refused-untouched x (other e) h).board i) (stay i) x.rooms (row-refused e (tables_of x) h i)

-- a message's number, or that nothing ended, is neither 3 nor 4
not-refused : (p : Board) (c : ℕ) (o : Option Got) → before_bytes (answered c o p).answer ≡ false
not-refused p c none = refl
not-refused p c (some g) = (judged-answers p (served_message c g p) (message-judged p c g)).1

pub refused-piece : (x : Held) (c room : ℕ) (piece : List ℕ) → before_bytes (effect_of x (bytes c room piece)).did.answer ≡ true
    → (box_call x (bytes c room piece)).0 ≡ x
refused-piece x c room piece =
    bytes-cases c room (length x.row) piece x.board x.halves x.rooms
    (λ e hs rs. before_bytes e.did.answer ≡ true → held e.did.board hs rs (row_after x.board e.did.board x.row) ≡ x)
    (λ h. rw (row_same x.board x.row)) (λ h. rw (row_same x.board x.row))
    (λ v h. absurd (true≢false (sym h ∙ not-refused x.board c (got_of ρ.room ρ.fed.outcome))))
  where
    ρ : Run
    ρ = fed c piece x.halves x.rooms

-- OTHERS KEPT
pub others-kept : (x : Held) (k : Call served) (d : ℕ) → call_on d k ≡ false → Kept d x (box_call x k).0
others-kept x (bytes c room piece) d n =
    record {
      half = bytes-half-apart c room (length x.row) piece x.board x.halves x.rooms d n;
      room = bytes-room-apart c room (length x.row) piece x.board x.halves x.rooms d n;
      line = (bytes-touches c room (length x.row) piece x.board x.halves x.rooms).others d n;
    }
others-kept x (other e) d n =
    record { half = left-apart (on e) d (happens e (tables_of x)).answer x.halves n; room = refl; line = line_of e n }
  where
    line_of : (e : Event) → is_of d (whose (on e)) ≡ false
        → with_marks false false (line_at d (happens e (tables_of x)).board) ≡ with_marks false false (line_at d x.board)
    line_of (level k v) n = (level-event k v x.board).at d
    line_of (pass m) n = (pass-event m x.row x.board).at d
    line_of (connect c rank strict) n = ap (with_marks false false) (connect-apart c rank strict x.board d n)
    line_of (close c) n = ap (with_marks false false) (close-apart c x.board d n)
    line_of (collect c room) n = (collect-touches c room x.board).others d n
    line_of (fill place) n = (fill-event (length x.row) place x.board).at d
    line_of (empty place) n = (empty-event (length x.row) place x.board).at d
