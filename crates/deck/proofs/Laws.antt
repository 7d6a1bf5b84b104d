-- What 02 says of a module that comes and goes, in sentences.
--     lost-bits               02, M-102, 8: a mask loses the bits of the module's relays and keeps every other of its sixteen
--     masks-lose              02, M-102, 8: each pulse that stands, the running one too, loses them, and keeps its place and its time
--     never-closed-again      02, M-102, 8: a pulse that lost them leaves these relays at its beginning and at its end
--     removed-open            02, M-102, 8: where a module leaves, its relays are open;   returned-open   and where one comes
--     others-kept             02, M-102, 8: no other relay is changed by either
--     no-mark-left            02, M-102, 4: where the last module leaves, no connection has a mark of the External Monitor message
--     monitor-unmarked        02, M-102, 6: an emptying leaves every mark of the Monitor message as it was
--     filling-marks-nothing   02, M-102, 6: and a filling leaves the connections
--     again                   02, M-102, 1: filling a place that is filled changes nothing, nor does emptying one that is empty
use mathlib.Core.Path.{◌≡◌, refl, sym, ap, ◌∙◌}
use mathlib.Core.Bool.{Bool, true, false, cond, not, ◌&&◌, and-true, and-false}
use mathlib.Core.List.{List, [], ◌∷◌, map, map-append}
use Prim.Native.Nat.{ℕ, zero, suc, ◌+◌, ◌*◌, ◌/◌, ◌%◌, ◌^◌, ◌<◌, ◌≤◌, zero-le}
use native.Mathlib.Nat.{zero-div}
use native.Mathlib.Omega.{arith}
use lib.Dec.{ltb, eqb}
use lib.ListN.{length, set, length-set}
use lib.Seq.{set_out, get_or-set_same, get_or-set_other}
use borrow.Author.Tests.{ltb-true, ltb-false, lt-ltb, le-ltb, eqb-true, eqb-false}
use Rattle.laws.specs.Bits.{bit_of}
use Rattle.laws.proofs.Tests.{by_cases}
use Rattle.records.specs.declared.Queue.{Queue}
use Rattle.records.specs.declared.Line.{Line}
use Rattle.records.specs.Records.{word, is_on, relay_in, queue_in, external_word, due_word}
use Rattle.rows.specs.Places.{Board, row_at, relay_at, line_at, first_relay, relay_place, first_line, line_place, queue_row, queue_of, first_place, on_rows}
use Rattle.rows.proofs.Range.{beyond, set-behind}
use Rattle.modules.specs.declared.Moved.{Moved}
use Rattle.modules.specs.Modules.{is_place, filled, place_row, place_set, has_module}
use Rattle.blocks.specs.Blocks.{masked, moves, block_moved, blocked_row, block_of}
use Rattle.changes.proofs.Making.{differ_same}
use Rattle.marks.specs.Marks.{marked_row, watches, any_moved, marked, external_cleared}
use Rattle.ring.specs.declared.Pulse.{Pulse}
use Rattle.ring.specs.Ring.{pulse_of, pulse_at, standing, place}
use Rattle.pulses.specs.Pulses.{begun, ended}
use Rattle.pulses.proofs.Passing.{no_row}
use Rattle.queue.specs.Listed.{ranked, waiting}
use Rattle.queue.proofs.Ring.{apart, snoc, behind-last}
use Rattle.queue.proofs.Relays.{rows-length, before, among, kept, seat, relay-of, before-lines, unmasked}
use Rattle.laws.proofs.Each.{none_of}
use Rattle.queue.proofs.Due.{noting, line_marked, module-blocked, module-marked}
use Rattle.filling.specs.Filling.{module_mask, opened, filled_at, last_gone, emptied_at, without, lost, losing, row_without, row_emptied}

-- ---- the bits of a module

-- something of each of four bits from bit k on, and of each of eight
abbrev FourFrom : ℕ → (ℕ → Type 0) → Type 0
FourFrom k P = P k × P (k + 1) × P (k + 2) × P (k + 3)

of_four : (k : ℕ) (P : ℕ → Type 0) → FourFrom k P → (j : ℕ) → k ≤ j → j < k + 4 → P j
of_four k P e j l h =
    by_cases (eqb j k)
    (λ t. rw (eqb-true j k t) e.0)
    (λ a. by_cases (eqb j (k + 1))
    (λ t. rw (eqb-true j (k + 1) t) e.1)
    (λ c. by_cases (eqb j (k + 2))
    (λ t. rw (eqb-true j (k + 2) t) e.2)
    (λ d. let s : j ≡ k + 3 = omega (arith, eqb-false j k a, eqb-false j (k + 1) c, eqb-false j (k + 2) d) in rw s e.3)))

of-eight : (k : ℕ) (P : ℕ → Type 0) → FourFrom k P → FourFrom (k + 4) P → (j : ℕ) → k ≤ j → j < k + 8 → P j
of-eight k P e f j l h =
    by_cases (ltb j (k + 4))
    (λ t. of_four k P e j l (ltb-true j (k + 4) t))
    (λ n. of_four (k + 4) P f j (ltb-false j (k + 4) n) (omega arith))

of-sixteen : (P : ℕ → Type 0) → FourFrom 0 P → FourFrom 4 P → FourFrom 8 P → FourFrom 12 P → (j : ℕ) → j < 16 → P j
of-sixteen P a c d e j h =
    by_cases (ltb j 8)
    (λ t. of-eight 0 P a c j zero-le (ltb-true j 8 t))
    (λ n. of-eight 8 P d e j (ltb-false j 8 n) (omega arith))

-- what is left of a mask without place one's bits, and without place two's
left_one : (m j : ℕ) → j < 16 → (m % 2 ^ 8 + m / 2 ^ 12 * 2 ^ 12) / 2 ^ j % 2 ≡ cond (bit_of 0x0F00 j) 0 (m / 2 ^ j % 2)
left_one m j h =
    of-sixteen (λ j. (m % 2 ^ 8 + m / 2 ^ 12 * 2 ^ 12) / 2 ^ j % 2 ≡ cond (bit_of 0x0F00 j) 0 (m / 2 ^ j % 2))
    (omega arith, omega arith, omega arith, omega arith)
    (omega arith, omega arith, omega arith, omega arith)
    (omega arith, omega arith, omega arith, omega arith)
    (omega arith, omega arith, omega arith, omega arith) j h

left-two : (m j : ℕ) → j < 16 → m % 2 ^ 12 / 2 ^ j % 2 ≡ cond (bit_of 0xF000 j) 0 (m / 2 ^ j % 2)
left-two m j h =
    of-sixteen (λ j. m % 2 ^ 12 / 2 ^ j % 2 ≡ cond (bit_of 0xF000 j) 0 (m / 2 ^ j % 2))
    (omega arith, omega arith, omega arith, omega arith)
    (omega arith, omega arith, omega arith, omega arith)
    (omega arith, omega arith, omega arith, omega arith)
    (omega arith, omega arith, omega arith, omega arith) j h

-- a bit that is taken, or left
taken_out : (taken : Bool) (x : ℕ) → eqb (cond taken 0 x) 1 ≡ eqb x 1 && not taken
taken_out true x = sym (and-false (eqb x 1))
taken_out false x = sym (and-true (eqb x 1))

pub lost-bits : (p m j : ℕ) → j < 16 → bit_of (without p m) j ≡ bit_of m j && not (bit_of (module_mask p) j)
unfolding without
lost-bits p m j h =
    by_cases (eqb p 1)
    (λ t. rw t (ap (λ (x : ℕ). eqb x 1) (left_one m j h) ∙ taken_out (bit_of 0x0F00 j) (m / 2 ^ j % 2)))
    (λ f. rw f (ap (λ (x : ℕ). eqb x 1) (left-two m j h) ∙ taken_out (bit_of 0xF000 j) (m / 2 ^ j % 2)))

-- ---- rows that an emptying and a filling leave

pub again : (p : ℕ) (b : Board) → (filled p b ≡ true → filled_at p b ≡ b) × (filled p b ≡ false → emptied_at p b ≡ b)
unfolding filled_at emptied_at
again p b = (λ t. rw t, λ f. rw f)

placed_row : (p : ℕ) (holds : Bool) (j : ℕ) (b : Board) → j < first_place → row_at j (place_set p holds b) ≡ row_at j b
unfolding place_set
placed_row p holds j b h = by_cases (is_place p) (λ t. rw t (get_or-set_other b (place_row p) j _ [] (λ e. omega (arith, e)))) (λ f. rw f)

gone-before : (j : ℕ) (b : Board) → j < first_line → row_at j (last_gone b) ≡ row_at j b
unfolding last_gone external_cleared
gone-before j b h = by_cases (has_module b) (λ t. rw t) (λ f. rw f (before first_line 4 j (λ _ row. set row external_word 0) b h))

gone-queue : (b : Board) → row_at queue_row (last_gone b) ≡ row_at queue_row b
unfolding last_gone external_cleared
gone-queue b = by_cases (has_module b) (λ t. rw t) (λ f. rw f (beyond first_line 4 queue_row (λ _ row. set row external_word 0) b (omega arith)))

marked-queue : (moved : Moved) (b : Board) → row_at queue_row (marked moved b) ≡ row_at queue_row b
unfolding marked
marked-queue moved b =
    by_cases (any_moved moved) (λ t. rw t (beyond first_line 4 queue_row (λ _. marked_row moved.inner (has_module b)) b (omega arith))) (λ f. rw f)

queue-emptied : (p : ℕ) (b : Board) → queue_of (emptied_at p b) ≡ queue_of b
unfolding queue_of emptied_at block_of
queue-emptied p b =
    by_cases (filled p b)
    (λ t. rw t (ap queue_in (gone-queue _ ∙ marked-queue _ _ ∙ placed_row p false queue_row _ (omega arith)
    ∙ beyond first_relay 16 queue_row (blocked_row (module_mask p) 0) b (omega arith))))
    (λ f. rw f)

-- ---- the pulses that stand

module _ (p : ℕ) (q : Queue) (row : List Pulse) (l : 31 ≤ length row) where
  without-length : (n : ℕ) → length (row_without p q n row) ≡ length row
  unfolding row_without
  without-length zero = refl
  without-length (suc n) = length-set (row_without p q n row) (place q n) _ ∙ without-length n

  -- a pulse whose turn has not come
  not_yet : (n k : ℕ) → n ≤ k → k < 31 → pulse_at (row_without p q n row) (place q k) ≡ pulse_at row (place q k)
  unfolding row_without
  not_yet zero k a h = refl
  not_yet (suc n) k a h =
      get_or-set_other (row_without p q n row) (place q n) (place q k) _ (pulse_of 0 0 0) (λ e. apart q n k (omega arith) h (sym e))
      ∙ not_yet n k (omega arith) h

  all-lose : (n : ℕ) → n ≤ 31 → ranked (row_without p q n row) q 0 n ≡ map (lost p) (ranked row q 0 n)
  unfolding ranked row_without
  all-lose zero h = refl
  all-lose (suc n) h =
      let before : List Pulse = row_without p q n row in
      let z : 0 + n ≡ n = omega arith in
      behind-last before (lost p (pulse_at before (place q n))) q n (omega arith) (rw (without-length n) l)
      ∙ rw (not_yet n n (omega arith) (omega arith), all-lose n (omega arith))
      (sym (map-append (lost p) (ranked row q 0 n) (pulse_at row (place q n) ∷ [])) ∙ ap (map (lost p)) (sym (rw z at (snoc row q 0 n))))

pub masks-lose : (p : ℕ) (b : Board) (row : List Pulse) → 31 ≤ length row → filled p b ≡ true
    → waiting (row_emptied p b row) (emptied_at p b) ≡ map (lost p) (waiting row b)
unfolding losing
masks-lose p b row l f =
    rw (queue-emptied p b, f, le-ltb (length row) 31 l) (all-lose p (queue_of b) row l (standing (queue_of b)) (omega arith))

pub never-closed-again : (p k : ℕ) (pulse : Pulse) (b : Board) → k < 16 → bit_of (module_mask p) k ≡ true
    → (row_at (relay_place (k + 1)) (begun (lost p pulse) b) ≡ row_at (relay_place (k + 1)) b)
    × (row_at (relay_place (k + 1)) (ended (lost p pulse) b) ≡ row_at (relay_place (k + 1)) b)
never-closed-again p k pulse b h m =
    unmasked (lost p pulse) b k h (lost-bits p pulse.mask k h ∙ rw m (and-false (bit_of pulse.mask k)))

-- ---- the relays

-- the rows with the module's relays open
abbrev opened_rows : ℕ → Board → Board
opened_rows p b = on_rows first_relay 16 (blocked_row (module_mask p) 0) b

emptied-row : (p j : ℕ) (b : Board) → filled p b ≡ true → j < first_line → row_at j (emptied_at p b) ≡ row_at j (opened_rows p b)
unfolding emptied_at block_of
emptied-row p j b f h = rw f (gone-before j _ h ∙ before-lines _ j _ h ∙ placed_row p false j _ (omega arith))

filled_row : (p j : ℕ) (b : Board) → filled p b ≡ false → j < first_place → row_at j (filled_at p b) ≡ row_at j (opened_rows p b)
unfolding filled_at block_of
filled_row p j b f h = rw f (placed_row p true j _ h)

opened-relay : (p k : ℕ) (b : Board) → k < 16 → bit_of (module_mask p) k ≡ true → (relay_in (row_at (relay_place (k + 1)) (opened_rows p b))).closed ≡ false
unfolding blocked_row
opened-relay p k b h m =
    rw (seat k)
    (by_cases (ltb (first_relay + k) (length b))
    (λ t. ap (λ (row : List ℕ). (relay_in row).closed) (among first_relay 16 k (blocked_row (module_mask p) 0) b h (ltb-true (first_relay + k) (length b) t))
    ∙ rw (m, zero-div (2 ^ k)))
    (λ n. let l = ltb-false (first_relay + k) (length b) n in
    rw (no_row (first_relay + k) (opened_rows p b) (rw (rows-length first_relay 16 (blocked_row (module_mask p) 0) b) l))))

other-relay : (p k : ℕ) (b : Board) → bit_of (module_mask p) k ≡ false → row_at (relay_place (k + 1)) (opened_rows p b) ≡ row_at (relay_place (k + 1)) b
unfolding blocked_row
other-relay p k b m = rw (seat k) (kept first_relay 16 k (blocked_row (module_mask p) 0) b (λ row. rw m))

emptied-other : (p k : ℕ) (b : Board) → k < 16 → bit_of (module_mask p) k ≡ false
    → row_at (relay_place (k + 1)) (emptied_at p b) ≡ row_at (relay_place (k + 1)) b
emptied-other p k b h m =
    by_cases (filled p b)
    (λ t. emptied-row p (relay_place (k + 1)) b t (omega arith) ∙ other-relay p k b m)
    (λ f. rw ((again p b).1 f))

filled-other : (p k : ℕ) (b : Board) → k < 16 → bit_of (module_mask p) k ≡ false
    → row_at (relay_place (k + 1)) (filled_at p b) ≡ row_at (relay_place (k + 1)) b
filled-other p k b h m =
    by_cases (filled p b)
    (λ t. rw ((again p b).0 t))
    (λ f. filled_row p (relay_place (k + 1)) b f (omega arith) ∙ other-relay p k b m)

module _ (p k : ℕ) (b : Board) (h : k < 16) where
  pub removed-open : filled p b ≡ true → bit_of (module_mask p) k ≡ true → (relay_at (k + 1) (emptied_at p b)).closed ≡ false
  removed-open f m =
      rw (relay-of k h (emptied_at p b), emptied-row p (relay_place (k + 1)) b f (omega arith)) (opened-relay p k b h m)

  pub returned-open : filled p b ≡ false → bit_of (module_mask p) k ≡ true → (relay_at (k + 1) (filled_at p b)).closed ≡ false
  returned-open f m =
      rw (relay-of k h (filled_at p b), filled_row p (relay_place (k + 1)) b f (omega arith)) (opened-relay p k b h m)

  pub others-kept : bit_of (module_mask p) k ≡ false
      → (relay_at (k + 1) (emptied_at p b) ≡ relay_at (k + 1) b) × (relay_at (k + 1) (filled_at p b) ≡ relay_at (k + 1) b)
  others-kept m = (
    rw (relay-of k h (emptied_at p b), relay-of k h b) (ap relay_in (emptied-other p k b h m)),
    rw (relay-of k h (filled_at p b), relay-of k h b) (ap relay_in (filled-other p k b h m)),
  )

-- ---- the marks

-- none of the module's relays is of the first deck
first-deck : (p k : ℕ) → k < 8 → bit_of (module_mask p) k ≡ false
first-deck p k h =
    by_cases (eqb p 1)
    (λ t. rw t (of-eight 0 (λ j. bit_of 0x0F00 j ≡ false) (refl, refl, refl, refl) (refl, refl, refl, refl) k zero-le h))
    (λ f. rw f (of-eight 0 (λ j. bit_of 0xF000 j ≡ false) (refl, refl, refl, refl) (refl, refl, refl, refl) k zero-le h))

-- so their opening is no change there
inner-still : (p : ℕ) (b : Board) → (block_moved (module_mask p) 0 b).inner ≡ false
unfolding masked
inner-still p b =
    none_of 8 (λ k. moves (module_mask p) 0 k (relay_at (k + 1) b)) (λ k h. rw (first-deck p k h) (differ_same (relay_at (k + 1) b).closed))

-- a connection whose row is the same
same_line : (c : ℕ) (z b : Board) → row_at (line_place c) z ≡ row_at (line_place c) b → line_at c z ≡ line_at c b
unfolding line_at
same_line c z b e = rw e

line-opened : (p c : ℕ) (holds : Bool) (b : Board) → c < 4 → line_at c (place_set p holds (opened p b).board) ≡ line_at c b
unfolding block_of
line-opened p c holds b h =
    same_line c _ b (placed_row p holds (line_place c) _ (omega arith) ∙ beyond first_relay 16 (line_place c) (blocked_row (module_mask p) 0) b (omega arith))

no_word : (n : ℕ) (row : List ℕ) → length row ≤ n → word n row ≡ 0
no_word n [] h = refl
no_word zero (w ∷ row) h = absurd (omega arith)
no_word (suc n) (w ∷ row) h = no_word n row (omega arith)

-- a connection's row without its mark of the External Monitor message
row-cleared : (row : List ℕ) → (is_on (word external_word (set row external_word 0)) ≡ false) × (word due_word (set row external_word 0) ≡ word due_word row)
row-cleared row = (
  by_cases (ltb external_word (length row))
      (λ t. rw (get_or-set_same row external_word 0 0 (ltb-true external_word (length row) t)))
      (λ f. let l = ltb-false external_word (length row) f in rw (set_out row external_word 0 l, no_word external_word row l)),
  get_or-set_other row external_word due_word 0 0 (λ e. omega arith),
)

cleared-row : (c : ℕ) (b : Board) → c < 4 → row_at (line_place c) (external_cleared b) ≡ set (row_at (line_place c) b) external_word 0
unfolding external_cleared
cleared-row c b h =
    let f : ℕ → List ℕ → List ℕ = λ _ row. set row external_word 0 in
    let e : line_place c ≡ first_line + c = omega arith in
    by_cases (ltb (line_place c) (length b))
    (λ t. rw e (among first_line 4 c f b h (omega (arith, ltb-true (line_place c) (length b) t))))
    (λ n. let l = ltb-false (line_place c) (length b) n in
    rw (no_row (line_place c) (on_rows first_line 4 f b) (rw (rows-length first_line 4 f b) l), no_row (line_place c) b l))

external-gone : (c : ℕ) (b : Board) → c < 4 → (line_at c (external_cleared b)).external ≡ false
unfolding line_at
external-gone c b h = rw (lt-ltb c 4 h, cleared-row c b h) (row-cleared (row_at (line_place c) b)).0

due-stays : (c : ℕ) (b : Board) → c < 4 → (line_at c (last_gone b)).due ≡ (line_at c b).due
unfolding line_at last_gone
due-stays c b h =
    by_cases (has_module b)
    (λ t. rw t)
    (λ f. rw (f, lt-ltb c 4 h, cleared-row c b h) (ap is_on (row-cleared (row_at (line_place c) b)).1))

-- what a change on the second deck alone makes of a connection
due-noted : (noted external : Bool) (l : Line) → (cond noted (noting false external l) l).due ≡ l.due
due-noted true external l = refl
due-noted false external l = refl

due-marked : (m : Moved) (c : ℕ) (b : Board) → c < 4 → m.inner ≡ false → (line_at c (marked m b)).due ≡ (line_at c b).due
due-marked m c b h i = rw (line_marked m c b h, i) (due-noted (m.outer && watches (line_at c b)) (has_module b) (line_at c b))

pub monitor-unmarked : (p c : ℕ) (b : Board) → c < 4 → (line_at c (emptied_at p b)).due ≡ (line_at c b).due
unfolding emptied_at block_of
monitor-unmarked p c b h =
    let m : Moved = block_moved (module_mask p) 0 b in
    let z : Board = place_set p false (opened_rows p b) in
    by_cases (filled p b)
    (λ t. rw t (due-stays c (marked m z) h ∙ due-marked m c z h (inner-still p b) ∙ ap (λ (l : Line). l.due) (line-opened p c false b h)))
    (λ f. rw f)

pub filling-marks-nothing : (p c : ℕ) (b : Board) → c < 4 → line_at c (filled_at p b) ≡ line_at c b
unfolding filled_at
filling-marks-nothing p c b h = by_cases (filled p b) (λ t. rw t) (λ f. rw f (line-opened p c true b h))

-- ---- the last module

set_beyond : (from n j : ℕ) (f : ℕ → List ℕ → List ℕ) (b : Board) (r : List ℕ) → from + n ≤ j → on_rows from n f (set b j r) ≡ set (on_rows from n f b) j r
unfolding on_rows
set_beyond from n j f [] r h = refl
set_beyond zero n j f (row ∷ b) r h = set-behind n j f (row ∷ b) r (omega arith)
set_beyond (suc from) n zero f (row ∷ b) r h = absurd (omega arith)
set_beyond (suc from) n (suc j) f (row ∷ b) r h = ap (λ (l : Board). row ∷ l) (set_beyond from n j f b r (omega arith))

place_opened : (p : ℕ) (holds : Bool) (b : Board) → place_set p holds (opened_rows p b) ≡ opened_rows p (place_set p holds b)
unfolding place_set
place_opened p holds b =
    let f : ℕ → List ℕ → List ℕ = blocked_row (module_mask p) 0 in
    by_cases (is_place p)
    (λ t. rw (t, beyond first_relay 16 (place_row p) f b (omega arith)) (sym (set_beyond first_relay 16 (place_row p) f b _ (omega arith))))
    (λ n. rw n)

pub no-mark-left : (p c : ℕ) (b : Board) → c < 4 → filled p b ≡ true → has_module (place_set p false b) ≡ false → (line_at c (emptied_at p b)).external ≡ false
unfolding emptied_at block_of last_gone
no-mark-left p c b h t n =
    let m : Moved = block_moved (module_mask p) 0 b in
    let z : Board = place_set p false (opened_rows p b) in
    let e : has_module (marked m z) ≡ false =
    module-marked m z ∙ rw (place_opened p false b) (module-blocked (module_mask p) 0 (place_set p false b) ∙ n) in
    rw (t, e) (external-gone c (marked m z) h)
