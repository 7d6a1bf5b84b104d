-- Nothing but time and a request for a pulse touches the queue: no command, block, entry, clock setting, level, opening, closing or collection,
-- and no place that is filled or emptied: that takes relays from the masks of its pulses, in the row.
--     queue-message    a message leaves every word of the queue's row, or asks for a pulse that is accepted
--     queue-event      an event but passing time leaves every word of it
--     running-kept     so the running pulse keeps its place, its ms left and the states that were remembered, whatever message comes
use mathlib.Core.Path.{◌≡◌, refl, ap, ◌∙◌}
use mathlib.Core.Bool.{true, false}
use mathlib.Core.List.{List, []}
use Prim.Native.Nat.{ℕ, ◌+◌, ◌≤◌, ◌<◌}
use native.Mathlib.Omega.{arith}
use borrow.Author.Tests.{ltb-true}
use lib.ListN.{length, set}
use lib.Seq.{get_or-set_other}
use Rattle.laws.proofs.Tests.{by_cases}
use Rattle.steps.specs.Cut.{Got, keep_alive, stray, too_long, frame}
use Rattle.std.specs.Prelude.{Result, Ok, Err}
use Rattle.refusals.specs.declared.Refusal.{Refusal}
use Rattle.orders.specs.declared.Order.{Order}
use Rattle.orders.specs.declared.Order.TheVariants.{Clock, Monitor, Usage, MonitorOff, MonitorOn, SetClock, Close, Open, Toggle, ClearCount, ClearInputUsage, ClearRelayUsage, Block, PulseRelay, PulseBlock, Read, Write, Enumerate}
use Rattle.records.specs.declared.Line.{Line}
use Rattle.records.specs.declared.Queue.{Queue}
use Rattle.records.specs.Records.{queue_in, external_word}
use Rattle.rows.specs.Places.{Board, is_channel, is_connection, row_at, line_at, put_line, on_rows, line_place, first_line, queue_row, queue_of}
use Rattle.rows.proofs.Range.{beyond}
use Rattle.modules.specs.declared.Moved.{Moved}
use Rattle.modules.specs.Modules.{present, has_module}
use Rattle.changes.specs.Answers.{moved_of}
use Rattle.changes.specs.Levels.{level_of}
use Rattle.orders.specs.Orders.{order_of}
use Rattle.writes.specs.Writes.{so_far}
use Rattle.marks.specs.Marks.{marked_row, any_moved, marked, external_cleared}
use Rattle.ring.specs.declared.Pulse.{Pulse}
use Rattle.pulses.specs.Pulses.{accepted}
use Rattle.ring.specs.Ring.{pulse_of, relay_pulse, runs, is_full, joined}
use Rattle.pulses.proofs.Passing.{has-row, told-again}
use Rattle.plain.specs.Events.{leveled, monitors_sent}
use Rattle.serving.specs.Obeying.{monitor_set, clock_told, pulsed, pulsed_relay, obeyed}
use Rattle.serving.specs.Serving.{served_order, served_content, served_message}
use Rattle.register.specs.Box.{Event, level, connect, close, collect, fill, empty, Tables, happens}
use Rattle.register.proofs.Moving.{Leaves, clock-stays, block-stays, on-input, on-relay, on-present, level-stays, written-stays}
use Rattle.register.proofs.Filling.{Fills, filled_keeps, emptied-keeps}
use Rattle.register.proofs.Cases.{frame-cases, connect-cases, close-cases, collect-cases}

-- every word of the queue's row is as it was
pub record Beside (b b' : Board) : Type 0 where
  pub row : row_at queue_row b' ≡ row_at queue_row b

same : (b : Board) → Beside b b
same b = record { row = refl }

then : {b b' b'' : Board} → Beside b b' → Beside b' b'' → Beside b b''
then e f = record { row = f.row ∙ e.row }

store : (n : ℕ) (b : Board) (r : List ℕ) → n < queue_row → Beside b (set b n r)
store n b r h = record { row = get_or-set_other b n queue_row r [] (λ e. omega arith) }

change : (from n : ℕ) (f : ℕ → List ℕ → List ℕ) (b : Board) → from + n ≤ queue_row → Beside b (on_rows from n f b)
change from n f b h = record { row = beyond from n queue_row f b h }

leaves-queue : Leaves Beside
leaves-queue =
    record { same = same; then = then; store = λ n b r h. store n b r (omega arith); change = λ from n f b h. change from n f b (omega arith) }

-- ---- a connection's row, and the marks

line-beside : (c : ℕ) (l : Line) (b : Board) → Beside b (put_line c l b)
unfolding put_line
line-beside c l b = by_cases (is_connection c) (λ h. rw h (store (line_place c) b _ (omega (arith, ltb-true c 4 h)))) (λ h. rw h (same b))

follows : (moved : Moved) {b b' : Board} → Beside b b' → Beside b (marked moved b')
unfolding marked
follows moved {b' = b'} e =
    by_cases (any_moved moved)
    (λ t. rw t (then e (change first_line 4 (λ _. marked_row moved.inner (has_module b')) b' (omega arith))))
    (λ n. rw n e)

-- a place that is filled or emptied
places-beside : (b : Board) → Fills (Beside b)
unfolding external_cleared
places-beside b =
    record {
      change = λ mask states z e. then e (block-stays leaves-queue mask states z);
      place = λ n row z h e. then e (record { row = get_or-set_other z n queue_row row [] (λ q. omega (arith, h)) });
      marks = λ moved z e. follows moved e;
      clears = λ z e. then e (change first_line 4 (λ _ row. set row external_word 0) z (omega arith));
    }

-- ---- events

-- all of them but passing time
pub data Timeless : Event → Type 0 where
  telling : (k v : ℕ) → Timeless (level k v)
  opening : (c rank strict : ℕ) → Timeless (connect c rank strict)
  closing : (c : ℕ) → Timeless (close c)
  collecting : (c room : ℕ) → Timeless (collect c room)
  filling : (place : ℕ) → Timeless (fill place)
  emptying : (place : ℕ) → Timeless (empty place)

pub queue-event : {e : Event} → Timeless e → (t : Tables) → Beside t.board (happens e t).board
unfolding leveled monitors_sent
queue-event (telling k v) t = follows (moved_of (level_of k v t.board).outcome) (level-stays leaves-queue k v t.board)
queue-event (opening c rank strict) t =
    let b : Board = t.board in
    connect-cases c b rank strict (λ d. Beside b d.board) (same b) (same b) (same b) (λ u. line-beside c _ b)
queue-event (closing c) t = let b : Board = t.board in close-cases c b (λ d. Beside b d.board) (same b) (λ u. line-beside c _ b)
queue-event (collecting c room) t =
    let b : Board = t.board in
    collect-cases c b room (λ d. Beside b d.board) (same b) (same b) (same b) (λ v. line-beside c _ b)
queue-event (filling place) t = filled_keeps (places-beside t.board) (length t.row) place t.board (same t.board)
queue-event (emptying place) t = emptied-keeps (places-beside t.board) (length t.row) place t.board (same t.board)

-- ---- messages

-- the queue's row stays, or a pulse is accepted
pub data Asked (b b' : Board) : Type 0 where
  nothing : Beside b b' → Asked b b'
  asks : (p : Pulse) → b' ≡ accepted p b → Asked b b'

pulsed-asks : (p : Pulse) (b : Board) → Asked b (pulsed p b).board
unfolding pulsed
pulsed-asks p b = by_cases (is_full (queue_of b)) (λ f. rw f (nothing (same b))) (λ f. rw f (asks p refl))

relay-asks : (k ms : ℕ) (b : Board) → Asked b (pulsed_relay k ms b).board
unfolding pulsed_relay
relay-asks k ms b = by_cases (present k b) (λ t. rw t (pulsed-asks (relay_pulse k ms) b)) (λ f. rw f (nothing (same b)))

obeyed-asks : (c : ℕ) (s : List ℕ) (o : Order) (b : Board) → Asked b (obeyed c s o b).board
unfolding obeyed monitor_set clock_told
obeyed-asks c s Clock b = nothing (same b)
obeyed-asks c s Monitor b = nothing (same b)
obeyed-asks c s Usage b = nothing (same b)
obeyed-asks c s MonitorOff b = nothing (line-beside c _ b)
obeyed-asks c s MonitorOn b = nothing (line-beside c _ b)
obeyed-asks c s (SetClock v) b = nothing (clock-stays leaves-queue v b)
obeyed-asks c s (Close k) b = nothing (follows _ (on-present leaves-queue _ k b))
obeyed-asks c s (Open k) b = nothing (follows _ (on-present leaves-queue _ k b))
obeyed-asks c s (Toggle k) b = nothing (follows _ (on-present leaves-queue _ k b))
obeyed-asks c s (ClearCount k) b = nothing (follows _ (on-input leaves-queue _ k b))
obeyed-asks c s (ClearInputUsage k) b = nothing (follows _ (on-input leaves-queue _ k b))
obeyed-asks c s (ClearRelayUsage k) b = nothing (follows _ (on-relay leaves-queue (is_channel k) _ k b))
obeyed-asks c s (Block mask states) b = nothing (follows _ (block-stays leaves-queue mask states b))
obeyed-asks c s (PulseRelay k ms) b = relay-asks k ms b
obeyed-asks c s (PulseBlock mask states ms) b = pulsed-asks (pulse_of mask states ms) b
obeyed-asks c s (Read n) b = nothing (same b)
obeyed-asks c s (Write n) b = nothing (follows _ (written-stays leaves-queue s 3 n (so_far b 0 false)))
obeyed-asks c s (Enumerate flags) b = nothing (same b)

order-asks : (c : ℕ) (s : List ℕ) (o : Result Order Refusal) (b : Board) → Asked b (served_order c s o b).board
order-asks c s (Ok o) b = obeyed-asks c s o b
order-asks c s (Err refusal) b = nothing (same b)

pub queue-message : (c : ℕ) (g : Got) (b : Board) → Asked b (served_message c g b).board
unfolding served_message served_content
queue-message c keep_alive b = nothing (same b)
queue-message c stray b = nothing (same b)
queue-message c too_long b = nothing (same b)
queue-message c (frame sum s) b = frame-cases c sum s b (λ d. Asked b d.board) (order-asks c s (order_of s (line_at c b).rank) b) (nothing (same b))

-- ---- the running pulse

-- its place, the ms that it has left, and the states that it returns to
pub record Running (q q' : Queue) : Type 0 where
  pub first : q'.first ≡ q.first
  pub left : q'.left ≡ q.left
  pub remembered : q'.remembered ≡ q.remembered

as_it_was : {q q' : Queue} → q' ≡ q → Running q q'
as_it_was e = record { first = ap (λ (q : Queue). q.first) e; left = ap (λ (q : Queue). q.left) e; remembered = ap (λ (q : Queue). q.remembered) e }

behind-it : (p : Pulse) (b : Board) → runs (queue_of b) ≡ true → queue_of (accepted p b) ≡ joined p (queue_of b)
unfolding accepted
behind-it p b r = rw r (told-again (joined p (queue_of b)) b (has-row b r))

asked-kept : {b b' : Board} → runs (queue_of b) ≡ true → Asked b b' → Running (queue_of b) (queue_of b')
unfolding queue_of
asked-kept r (nothing e) = as_it_was (ap queue_in e.row)
asked-kept {b} r (asks p e) = let q = ap queue_of e ∙ behind-it p b r in rw q (record { first = refl; left = refl; remembered = refl })

pub running-kept : (c : ℕ) (g : Got) (b : Board) → runs (queue_of b) ≡ true → Running (queue_of b) (queue_of (served_message c g b).board)
running-kept c g b r = asked-kept r (queue-message c g b)
