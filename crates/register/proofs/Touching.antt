-- What events and messages leave of the connections, openings and closings aside.
--     Unmarked    each connection is as it was, its marks aside: level-event, pass-event
--     Touches     each has what its opening settled, and each but the sender's is as it was, its marks aside: collect-touches, message-touches
use mathlib.Core.Path.{◌≡◌, refl, ap, ◌∙◌}
use mathlib.Core.Bool.{Bool, true, false, cond}
use mathlib.Core.List.{List, [], ◌∷◌}
use Prim.Native.Nat.{ℕ, zero, suc, ◌+◌, ◌≤◌, ◌<◌}
use native.Mathlib.Omega.{arith}
use borrow.Author.Tests.{eqb-false, ltb-true}
use lib.Dec.{eqb}
use lib.ListN.{length, set}
use lib.Seq.{get_or-set_other}
use Rattle.laws.proofs.Tests.{by_cases}
use Rattle.steps.specs.Cut.{Got, keep_alive, stray, too_long, frame}
use Rattle.std.specs.Prelude.{Result, Ok, Err}
use Rattle.refusals.specs.declared.Refusal.{Refusal}
use Rattle.orders.specs.declared.Order.{Order}
use Rattle.orders.specs.declared.Order.TheVariants.{Clock, Monitor, Usage, MonitorOff, MonitorOn, SetClock, Close, Open, Toggle, ClearCount, ClearInputUsage, ClearRelayUsage, Block, PulseRelay, PulseBlock, Read, Write, Enumerate}
use Rattle.records.specs.declared.Line.{Line}
use Rattle.rows.specs.Places.{Board, is_channel, is_connection, row_at, line_at, put_line, on_rows, line_place, first_line, queue_row, queue_of}
use Rattle.records.specs.Records.{is_on, line_in, line_words, external_word, shut_line}
use Rattle.rows.proofs.Range.{beyond}
use Rattle.records.proofs.Views.{line-again}
use Rattle.changes.specs.Answers.{moved_of}
use Rattle.changes.specs.Levels.{level_of}
use Rattle.orders.specs.Orders.{order_of}
use Rattle.writes.specs.Writes.{so_far}
use Rattle.modules.specs.declared.Moved.{Moved}
use Rattle.modules.specs.Modules.{present, has_module}
use Rattle.filling.specs.Filling.{place_filled, place_emptied}
use Rattle.ring.specs.declared.Pulse.{Pulse}
use Rattle.pulses.specs.Pulses.{short_row}
use Rattle.ring.specs.Ring.{pulse_of, relay_pulse, is_full}
use Rattle.pulses.proofs.Keeping.{Keeps, elapsed-keeps, accepted-keeps}
use Rattle.connections.specs.Lines.{is_open, is_strict}
use Rattle.marks.specs.Marks.{with_marks, with_monitor, watches, marked_row, any_moved, marked, external_cleared}
use Rattle.plain.specs.Events.{leveled, time_passed, monitors_sent, collected}
use Rattle.serving.specs.Obeying.{monitor_set, clock_told, pulsed, pulsed_relay, obeyed}
use Rattle.serving.specs.Serving.{served_order, served_content, served_message}
use Rattle.register.proofs.Moving.{Leaves, clock-stays, passed-stays, block-stays, on-input, on-relay, on-present, level-stays, written-stays}
use Rattle.register.proofs.Filling.{Fills, filled_keeps, emptied-keeps}
use Rattle.register.proofs.Cases.{frame-cases, collect-cases}

-- each connection is as it was, its marks aside
pub record Unmarked (b b' : Board) : Type 0 where
  pub at : (d : ℕ) → with_marks false false (line_at d b') ≡ with_marks false false (line_at d b)

same : (b : Board) → Unmarked b b
same b = record { at = λ d. refl }

then : {b b' b'' : Board} → Unmarked b b' → Unmarked b' b'' → Unmarked b b''
then e f = record { at = λ d. f.at d ∙ e.at d }

-- what the opening of a connection settles, and nothing but its closing changes: that it is open, its rank, whether it is strict
abbrev settled : Line → Line
settled l = with_monitor false (with_marks false false l)

pub record Settled (b b' : Board) : Type 0 where
  pub of : (d : ℕ) → settled (line_at d b') ≡ settled (line_at d b)

pub unmarked-settled : {b b' : Board} → Unmarked b b' → Settled b b'
unmarked-settled e = record { of = λ d. ap settled (e.at d) }

-- so each is as open as it was, and as strict
pub as-open : {b b' : Board} → Settled b b' → (d : ℕ) → is_open d b' ≡ is_open d b
as-open e d = ap (λ (l : Line). l.is_open) (e.of d)

pub as-strict : {b b' : Board} → Settled b b' → (d : ℕ) → is_strict d b' ≡ is_strict d b
as-strict e d = ap (λ (l : Line). is_on l.strict) (e.of d)

-- what came from connection c leaves each what its opening settled, and the others as they were, their marks aside
pub record Touches (c : ℕ) (b b' : Board) : Type 0 where
  pub as-opened : Settled b b'
  pub others : (d : ℕ) → eqb d c ≡ false → with_marks false false (line_at d b') ≡ with_marks false false (line_at d b)

quiet : {c : ℕ} {b b' : Board} → Unmarked b b' → Touches c b b'
quiet e = record { as-opened = unmarked-settled e; others = λ d n. e.at d }

pub still : {c : ℕ} {b : Board} → Touches c b b
still {b = b} = quiet (same b)

-- ---- rows

abbrev settled_in : List ℕ → Line
settled_in row = settled (line_in row)

abbrev unmarked : List ℕ → Line
unmarked row = with_marks false false (line_in row)

-- what a connection's row says is what is said of the connection
by_rows : {A : Type 0} (g : Line → A) (b b' : Board)
    → ((d : ℕ) → d < 4 → g (line_in (row_at (line_place d) b')) ≡ g (line_in (row_at (line_place d) b))) → (d : ℕ) → g (line_at d b') ≡ g (line_at d b)
unfolding line_at
by_rows g b b' e d = by_cases (is_connection d) (λ t. rw t (e d (ltb-true d 4 t))) (λ t. rw t)

-- it stays where each change of a row leaves it
set-same-by : {A : Type 0} (g : List ℕ → A) (b : Board) (n j : ℕ) (r : List ℕ) → g r ≡ g (row_at n b) → g (row_at j (set b n r)) ≡ g (row_at j b)
set-same-by g [] n j r h = refl
set-same-by g (row ∷ b) zero zero r h = h
set-same-by g (row ∷ b) zero (suc j) r h = refl
set-same-by g (row ∷ b) (suc n) zero r h = refl
set-same-by g (row ∷ b) (suc n) (suc j) r h = set-same-by g b n j r h

rows-same-by : {A : Type 0} (g : List ℕ → A) (from n j : ℕ) (f : ℕ → List ℕ → List ℕ) (b : Board) → ((k : ℕ) (row : List ℕ) → g (f k row) ≡ g row)
    → g (row_at j (on_rows from n f b)) ≡ g (row_at j b)
unfolding on_rows
rows-same-by g from n j f [] h = refl
rows-same-by g zero zero j f (row ∷ b) h = refl
rows-same-by g zero (suc n) zero f (row ∷ b) h = h 0 row
rows-same-by g zero (suc n) (suc j) f (row ∷ b) h = rows-same-by g zero n j (λ k. f (suc k)) b (λ k. h (suc k))
rows-same-by g (suc from) n zero f (row ∷ b) h = refl
rows-same-by g (suc from) n (suc j) f (row ∷ b) h = rows-same-by g from n j f b h

-- a row that is no connection's
store : (n : ℕ) (b : Board) (r : List ℕ) → ((d : ℕ) → d < 4 → line_place d ≡ n → ⊥) → Unmarked b (set b n r)
store n b r h = record { at = by_rows (with_marks false false) b (set b n r) (λ d l. ap unmarked (get_or-set_other b n (line_place d) r [] (h d l))) }

before-lines : (n : ℕ) → n < first_line → (d : ℕ) → d < 4 → line_place d ≡ n → ⊥
before-lines n h d l e = omega arith

change : (from n : ℕ) (f : ℕ → List ℕ → List ℕ) (b : Board) → from + n ≤ first_line → Unmarked b (on_rows from n f b)
change from n f b h =
    record { at = by_rows (with_marks false false) b (on_rows from n f b) (λ d l. ap unmarked (beyond from n (line_place d) f b (omega arith))) }

-- a store and a change of rows before the connections'
connections-stay : Leaves Unmarked
connections-stay =
    record { same = same; then = then; store = λ n b r h. store n b r (before-lines n h); change = change }

-- ---- a connection's own row

line-settled : (c : ℕ) (b : Board) → is_connection c ≡ true → settled (line_at c b) ≡ settled_in (row_at (line_place c) b)
unfolding line_at
line-settled c b h = ap (λ (t : Bool). settled (cond t (line_in (row_at (line_place c) b)) shut_line)) h

-- a store to connection c leaves the others
pub line-apart : (c d : ℕ) (l : Line) (b : Board) → eqb d c ≡ false → line_at d (put_line c l b) ≡ line_at d b
unfolding line_at put_line
line-apart c d l b n =
    by_cases (is_connection c)
    (λ q. rw q (ap (λ (row : List ℕ). cond (is_connection d) (line_in row) shut_line) (get_or-set_other b (line_place c) (line_place d) (line_words l) [] other)))
    (λ q. rw q)
  where
    other : line_place d ≡ line_place c → ⊥
    other e = eqb-false d c n (omega arith)

-- another connection in c's place, with what c's opening settled
line-as-opened : (c : ℕ) (l : Line) (b : Board) → settled l ≡ settled (line_at c b) → (d : ℕ) → settled (line_at d (put_line c l b)) ≡ settled (line_at d b)
unfolding put_line
line-as-opened c l b e d = by_cases (is_connection c) (λ h. rw h (by_rows settled b _ (λ d l. row h d) d)) (λ h. rw h)
  where
    row : is_connection c ≡ true → (d : ℕ) → settled_in (row_at (line_place d) (set b (line_place c) (line_words l))) ≡ settled_in (row_at (line_place d) b)
    row h d = set-same-by settled_in b (line_place c) (line_place d) (line_words l) (ap settled (line-again l) ∙ e ∙ line-settled c b h)

line-touches : (c : ℕ) (l : Line) (b : Board) → settled l ≡ settled (line_at c b) → Touches c b (put_line c l b)
line-touches c l b e = record { as-opened = record { of = line-as-opened c l b e }; others = λ d n. ap (with_marks false false) (line-apart c d l b n) }

-- ---- marks

mark-alone : (due external : Bool) (row : List ℕ) → unmarked (marked_row due external row) ≡ unmarked row
unfolding marked_row
mark-alone due external row = by_cases (watches (line_in row)) (λ h. rw h) (λ h. rw h)

marked-stays : (moved : Moved) (b : Board) → Unmarked b (marked moved b)
unfolding marked
marked-stays moved b =
    let f : ℕ → List ℕ → List ℕ = λ _. marked_row moved.inner (has_module b) in
    by_cases (any_moved moved)
    (λ t. rw t
    (record {
      at = by_rows (with_marks false false) b _ (λ d l. rows-same-by unmarked first_line 4 (line_place d) f b
          (λ k. mark-alone moved.inner (has_module b)));
    }))
    (λ n. rw n (same b))

-- the marks of the External Monitor message, cleared
clear-alone : (row : List ℕ) → unmarked (set row external_word 0) ≡ unmarked row
clear-alone [] = refl
clear-alone (a ∷ []) = refl
clear-alone (a ∷ b ∷ []) = refl
clear-alone (a ∷ b ∷ c ∷ []) = refl
clear-alone (a ∷ b ∷ c ∷ d ∷ []) = refl
clear-alone (a ∷ b ∷ c ∷ d ∷ e ∷ []) = refl
clear-alone (a ∷ b ∷ c ∷ d ∷ e ∷ f ∷ row) = refl

cleared-stays : (b : Board) → Unmarked b (external_cleared b)
unfolding external_cleared
cleared-stays b =
    let f : ℕ → List ℕ → List ℕ = λ _ row. set row external_word 0 in
    record { at = by_rows (with_marks false false) b _ (λ d l. rows-same-by unmarked first_line 4 (line_place d) f b (λ k. clear-alone)) }

-- a change, and the marks that follow
follows : (changed : Moved) (b b' : Board) → Unmarked b b' → Unmarked b (marked changed b')
follows changed b b' e = then e (marked-stays changed b')

-- ---- events

pub level-event : (k v : ℕ) (b : Board) → Unmarked b (leveled k v b).board
unfolding leveled
level-event k v b = follows (moved_of (level_of k v b).outcome) b (level_of k v b).board (level-stays connections-stay k v b)

-- pulses leave the connections as all they are made of does
pulses-stay : (b : Board) → Keeps (Unmarked b)
pulses-stay b =
    record {
      time = λ d z e. then e (passed-stays connections-stay d z);
      change = λ mask states z e. then e (block-stays connections-stay mask states z);
      marks = λ moved z e. then e (marked-stays moved z);
      store = λ row z e. then e (store queue_row z row (λ d l q. omega arith));
    }

pub pass-event : (d : ℕ) (row : List Pulse) (b : Board) → Unmarked b (time_passed d row b).board
unfolding time_passed
pass-event d row b =
    by_cases (short_row (length row)) (λ s. rw s (same b)) (λ s. rw s (elapsed-keeps (pulses-stay b) row d b (same b)))

-- so does a place that is filled or emptied
places-stay : (b : Board) → Fills (Unmarked b)
places-stay b =
    record {
      change = λ mask states z e. then e (block-stays connections-stay mask states z);
      place = λ n row z h e. then e (store n z row (λ d l q. omega (arith, h)));
      marks = λ moved z e. then e (marked-stays moved z);
      clears = λ z e. then e (cleared-stays z);
    }

pub fill-event : (records place : ℕ) (b : Board) → Unmarked b (place_filled records place b).board
fill-event records place b = filled_keeps (places-stay b) records place b (same b)

pub empty-event : (records place : ℕ) (b : Board) → Unmarked b (place_emptied records place b).board
empty-event records place b = emptied-keeps (places-stay b) records place b (same b)

pulsed-stays : (p : Pulse) (b : Board) → Unmarked b (pulsed p b).board
unfolding pulsed
pulsed-stays p b = by_cases (is_full (queue_of b)) (λ f. rw f (same b)) (λ f. rw f (accepted-keeps (pulses-stay b) p b (same b)))

relay-pulsed : (k ms : ℕ) (b : Board) → Unmarked b (pulsed_relay k ms b).board
unfolding pulsed_relay
relay-pulsed k ms b = by_cases (present k b) (λ t. rw t (pulsed-stays (relay_pulse k ms) b)) (λ f. rw f (same b))

pub collect-touches : (c room : ℕ) (b : Board) → Touches c b (collected c room b).board
unfolding monitors_sent
collect-touches c room b = collect-cases c b room (λ d. Touches c b d.board) still still still (λ v. line-touches c _ b refl)

-- ---- messages

-- a change that a message makes
makes : {c : ℕ} (changed : Moved) (b b' : Board) → Unmarked b b' → Touches c b (marked changed b')
makes changed b b' e = quiet (follows changed b b' e)

obeyed-touches : (c : ℕ) (s : List ℕ) (o : Order) (b : Board) → Touches c b (obeyed c s o b).board
unfolding obeyed monitor_set clock_told
obeyed-touches c s Clock b = still
obeyed-touches c s Monitor b = still
obeyed-touches c s Usage b = still
obeyed-touches c s MonitorOff b = line-touches c _ b refl
obeyed-touches c s MonitorOn b = line-touches c _ b refl
obeyed-touches c s (SetClock v) b = quiet (clock-stays connections-stay v b)
obeyed-touches c s (Close k) b = makes _ b _ (on-present connections-stay _ k b)
obeyed-touches c s (Open k) b = makes _ b _ (on-present connections-stay _ k b)
obeyed-touches c s (Toggle k) b = makes _ b _ (on-present connections-stay _ k b)
obeyed-touches c s (ClearCount k) b = makes _ b _ (on-input connections-stay _ k b)
obeyed-touches c s (ClearInputUsage k) b = makes _ b _ (on-input connections-stay _ k b)
obeyed-touches c s (ClearRelayUsage k) b = makes _ b _ (on-relay connections-stay (is_channel k) _ k b)
obeyed-touches c s (Block mask state) b = makes _ b _ (block-stays connections-stay mask state b)
obeyed-touches c s (PulseRelay k ms) b = quiet (relay-pulsed k ms b)
obeyed-touches c s (PulseBlock mask states ms) b = quiet (pulsed-stays (pulse_of mask states ms) b)
obeyed-touches c s (Read n) b = still
obeyed-touches c s (Write n) b = makes _ b _ (written-stays connections-stay s 3 n (so_far b 0 false))
obeyed-touches c s (Enumerate flags) b = still

order-touches : (c : ℕ) (s : List ℕ) (o : Result Order Refusal) (b : Board) → Touches c b (served_order c s o b).board
order-touches c s (Ok o) b = obeyed-touches c s o b
order-touches c s (Err refusal) b = still

pub message-touches : (c : ℕ) (g : Got) (b : Board) → Touches c b (served_message c g b).board
unfolding served_message served_content
message-touches c keep_alive b = still
message-touches c stray b = still
message-touches c too_long b = still
message-touches c (frame sum s) b = frame-cases c sum s b (λ d. Touches c b d.board) (order-touches c s (order_of s (line_at c b).rank) b) still
