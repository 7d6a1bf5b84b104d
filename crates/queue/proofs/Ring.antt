-- The ring is the list: what one ms and a request do to the ring, they do to the list that it stands for.
--     place-low        02, M-100, 5: every place is one of the row's first 31
--     apart            02, M-100, 5: and those of different pulses differ
--     view-tick        02, M-100, 4 and 5: one ms, on the ring and on the list;   view-elapsed   and d of them
--     view-pushed      02, M-100, 5 and 7: a request, likewise
--     seat-stores      02, M-100, 5: the row after a request is that with its record at the place that `ring::seat` gives
--     waiting-length   02, M-100, 2: the list is as long as pulses stand
use mathlib.Core.Path.{◌≡◌, refl, sym, ap, ◌∙◌}
use mathlib.Core.Bool.{true, false}
use mathlib.Core.List.{List, [], ◌∷◌, ◌++◌}
use Prim.Native.Nat.{ℕ, zero, suc, ◌+◌, ◌-◌, ◌*◌, ◌/◌, ◌%◌, ◌<◌, ◌≤◌, min, max}
use native.Mathlib.Nat.{add-mod, mod-add-mod, mod-add-div', mod-eq_of_lt, mod-lt}
use native.Mathlib.Omega.{arith}
use lib.Dec.{leb, ltb, lit<}
use lib.ListN.{length, set}
use lib.Seq.{lt-length-set, get_or-set_same, get_or-set_other}
use borrow.Author.Tests.{ltb-true, ltb-false, leb-true, leb-false, le-leb, lt-leb, lt-ltb, le-ltb}
use Rattle.std.specs.Prelude.{Option, Some, None}
use Rattle.laws.specs.Times.{times}
use Rattle.laws.proofs.Tests.{by_cases}
use Rattle.records.specs.declared.Queue.{Queue}
use Rattle.rows.specs.Places.{Board, queue_row, queue_of, put_queue, left_set}
use Rattle.tables.specs.Time.{passed}
use Rattle.ring.specs.declared.Pulse.{Pulse}
use Rattle.pulses.specs.Pulses.{states_of, beginning, begun, ended, followed, turned, waited, tick, elapsed, accepted}
use Rattle.ring.specs.Ring.{pulse_of, pulse_at, standing, is_full, place, runs, popped, joined, newest, seat_of, row_after}
use Rattle.pulses.proofs.Apart.{queue-passed, queue-switched}
use Rattle.pulses.proofs.Ticks.{leaving, left-told}
use Rattle.pulses.proofs.Passing.{has-row, told-again, queue-ended}
use Rattle.queue.specs.Listed.{ranked, waiting, list_in, started, elapsing, elapse, join, pushed, Fits}

-- ---- places

-- the k-th place behind the first
pub flat : (q : Queue) (k : ℕ) → place q k ≡ (q.first + k) % 31
flat q k = sym (add-mod q.first k 31)

pub place-low : (q : Queue) (k : ℕ) → place q k < 31
place-low q k = mod-lt (q.first % 31 + k % 31) (lit< tt)

-- when the first is gone each of the others is one place nearer
nearer : (q : Queue) (k : ℕ) → place (popped q) k ≡ place q (suc k)
nearer q k =
    let e : (q.first + 1) + k ≡ q.first + suc k = omega arith in
    flat (popped q) k ∙ rw (flat q 1, flat q (suc k), mod-add-mod (q.first + 1) 31 k, e)

-- ---- the list

same_first : (row : List Pulse) (q q' : Queue) (k n : ℕ) → q.first ≡ q'.first → ranked row q k n ≡ ranked row q' k n
unfolding ranked
same_first row q q' k zero e = refl
same_first row q q' k (suc n) e = rw (same_first row q q' (suc k) n e, e)

without-first : (row : List Pulse) (q : Queue) (k n : ℕ) → ranked row (popped q) k n ≡ ranked row q (suc k) n
unfolding ranked
without-first row q k zero = refl
without-first row q k (suc n) = rw (nearer q k, without-first row q (suc k) n)

-- those that stand, of a queue
abbrev stands : List Pulse → Queue → List Pulse
stands row q = ranked row q 0 (standing q)

same_line : (row : List Pulse) (q q' : Queue) → q.first ≡ q'.first → q.standing ≡ q'.standing → stands row q ≡ stands row q'
same_line row q q' e f = ap (λ (n : ℕ). ranked row q 0 (min n 31)) f ∙ same_first row q q' 0 (standing q') e

stands-none : (row : List Pulse) (q : Queue) → runs q ≡ false → stands row q ≡ []
unfolding ranked
stands-none row q r = let z : standing q ≡ 0 = omega (arith, ltb-false 0 q.standing r) in rw z

stands-some : (row : List Pulse) (q : Queue) → runs q ≡ true → stands row q ≡ pulse_at row (place q 0) ∷ stands row (popped q)
unfolding ranked
stands-some row q r =
    let t = ltb-true 0 q.standing r in
    let s : standing q ≡ suc (standing q - 1) = omega arith in
    let u : standing (popped q) ≡ standing q - 1 = omega arith in
    ap (ranked row q 0) s ∙ rw u (ap (λ (l : List Pulse). pulse_at row (place q 0) ∷ l) (sym (without-first row q 0 (standing q - 1))))

-- ---- one ms

pub queue-begun : (p : Pulse) (b : Board) → queue_row < length b → queue_of (begun p b) ≡ beginning p (states_of b) (queue_of b)
unfolding begun
queue-begun p b h = queue-switched _ _ _ ∙ told-again (beginning p (states_of b) (queue_of b)) b h

view-followed : (row : List Pulse) (b : Board) → list_in row (followed (pulse_at row (place (queue_of b) 0)) b) ≡ started b (waiting row b)
unfolding started
view-followed row b =
    by_cases (runs (queue_of b))
    (λ r. let p : Pulse = pulse_at row (place (queue_of b) 0) in
    let q = queue-begun p b (has-row b r) in
    let s : waiting row (begun p b) ≡ waiting row b = same_line row (queue_of (begun p b)) (queue_of b) (rw q) (rw q) in
    rw (r, s, stands-some row (queue_of b) r))
    (λ r. rw (r, stands-none row (queue_of b) r))

last-ms : (left : ℕ) → leb (max 1 left) 1 ≡ leb left 1
last-ms left =
    by_cases (leb left 1)
    (λ t. rw (t, le-leb (max 1 left) 1 (omega (arith, leb-true left 1 t))))
    (λ f. rw (f, lt-leb (max 1 left) 1 (omega (arith, leb-false left 1 f))))

-- the first ends
view-ended : (row : List Pulse) (b : Board) → runs (queue_of b) ≡ true
    → list_in row (turned (pulse_at row (place (queue_of b) 0)) (pulse_at row (place (queue_of b) 1)) b)
    ≡ started (ended (pulse_at row (place (queue_of b) 0)) b) (stands row (popped (queue_of b)))
unfolding turned
view-ended row b r =
    let p : Pulse = pulse_at row (place (queue_of b) 0) in
    let e : queue_of (ended p b) ≡ popped (queue_of b) = queue-ended p b r in
    let n : place (queue_of b) 1 ≡ place (queue_of (ended p b)) 0 = rw e (sym (nearer (queue_of b) 0)) in
    ap (λ (i : ℕ). list_in row (followed (pulse_at row i) (ended p b))) n ∙ view-followed row (ended p b)
    ∙ ap (λ (q : Queue). started (ended p b) (stands row q)) e

-- none ends
waits-on : (row : List Pulse) (b : Board) → waiting row (left_set ((queue_of b).left - 1) (passed 1 b)) ≡ waiting row b
waits-on row b =
    let q : queue_of (left_set ((queue_of b).left - 1) (passed 1 b)) ≡ leaving ((queue_of b).left - 1) (queue_of b) =
    rw (queue-passed 1 b) at (left-told 1 (passed 1 b)) in
    same_line row (queue_of (left_set ((queue_of b).left - 1) (passed 1 b))) (queue_of b) (rw q) (rw q)

-- one ms, on the ring and on the list
pub view-tick : (row : List Pulse) (b : Board) → list_in row (tick row b) ≡ elapse (list_in row b)
unfolding tick waited elapsing
view-tick row b =
    let q : Queue = queue_of b in
    by_cases (runs q)
    (λ r. by_cases (leb q.left 1)
    (λ t. let e : list_in row (turned (pulse_at row (place q 0)) (pulse_at row (place q 1)) (passed 1 b))
    ≡ started (ended (pulse_at row (place q 0)) (passed 1 b)) (stands row (popped q)) =
    rw (queue-passed 1 b) at (view-ended row (passed 1 b) (rw (queue-passed 1 b) r)) in
    simp (r, last-ms q.left, t) (e ∙ rw (stands-some row q r, t)))
    (λ t. simp (r, last-ms q.left, t) (rw (waits-on row b, stands-some row q r, t))))
    (λ r. simp r (rw (queue-passed 1 b, stands-none row q r)))

pub view-elapsed : (row : List Pulse) (d : ℕ) (b : Board) → list_in row (elapsed row d b) ≡ times d elapse (list_in row b)
unfolding elapsed
view-elapsed row zero b = refl
view-elapsed row (suc d) b = view-tick row (times d (tick row) b) ∙ ap elapse (view-elapsed row d b)

-- ---- a request

-- the queue behind a request that is accepted
module _ (p : Pulse) (b : Board) (h : queue_row < length b) where
  put-there : queue_row < length (put_queue (joined p (queue_of b)) b)
  unfolding put_queue
  put-there = lt-length-set b queue_row _ h

  queue-put : queue_of (put_queue (joined p (queue_of b)) b) ≡ joined p (queue_of b)
  queue-put = told-again (joined p (queue_of b)) b h

  pub queue-waits : runs (queue_of b) ≡ true → queue_of (accepted p b) ≡ joined p (queue_of b)
  unfolding accepted
  queue-waits r = rw (r, queue-put)

  pub queue-begins : runs (queue_of b) ≡ false → queue_of (accepted p b) ≡ beginning p (states_of (put_queue (joined p (queue_of b)) b)) (joined p (queue_of b))
  unfolding accepted
  queue-begins r = rw r (queue-begun p (put_queue (joined p (queue_of b)) b) put-there ∙ ap (beginning p _) queue-put)

  -- in either case
  pub one_more : ((queue_of (accepted p b)).first ≡ (queue_of b).first) × ((queue_of (accepted p b)).standing ≡ (queue_of b).standing + 1)
  one_more =
      by_cases (runs (queue_of b))
      (λ r. rw (queue-waits r) (refl, refl))
      (λ r. rw (queue-begins r) (refl, refl))

  pub newest-is : Fits p → newest (accepted p b) ≡ p
  unfolding newest
  newest-is f =
      let m = mod-eq_of_lt f.mask in
      let s = mod-eq_of_lt f.states in
      let d = mod-eq_of_lt f.duration in
      by_cases (runs (queue_of b))
      (λ r. rw (queue-waits r, m, s, d))
      (λ r. rw (queue-begins r, m, s, d))

  pub seat-is : seat_of (queue_of b) (queue_of (accepted p b)) ≡ Some (place (queue_of b) (queue_of b).standing)
  unfolding seat_of
  seat-is =
      let e : (queue_of b).standing + 1 - 1 ≡ (queue_of b).standing = omega arith in
      rw (one_more.0, one_more.1, lt-ltb (queue_of b).standing ((queue_of b).standing + 1) (omega arith), e)

  -- the row with its record
  pub stored : (row : List Pulse) → Fits p → row_after b (accepted p b) row ≡ set row (place (queue_of b) (queue_of b).standing) p
  unfolding row_after
  stored row f =
      let e : (queue_of b).standing + 1 - 1 ≡ (queue_of b).standing = omega arith in
      rw (newest-is f, one_more.0, one_more.1, lt-ltb (queue_of b).standing ((queue_of b).standing + 1) (omega arith), e)

-- the row that `ring::seat` says where to store in
abbrev pub stored_at : Option ℕ → Pulse → List Pulse → List Pulse
stored_at (Some i) p row = set row i p
stored_at None p row = row

pub seat-stores : (b b' : Board) (row : List Pulse) → stored_at (seat_of (queue_of b) (queue_of b')) (newest b') row ≡ row_after b b' row
unfolding seat_of row_after
seat-stores b b' row = by_cases (ltb (queue_of b).standing (queue_of b').standing) (λ t. rw t) (λ f. rw f)

pub none-stored : (b : Board) (row : List Pulse) → row_after b b row ≡ row
unfolding row_after
none-stored b row = rw (le-ltb (queue_of b).standing (queue_of b).standing (omega arith))

-- numbers that are not 31 apart have different rests
rests : (a c x y r : ℕ) → r + x * 31 ≡ a → r + y * 31 ≡ c → a < c → c < a + 31 → ⊥
rests a c x y r e f l h = omega arith

pub apart : (q : Queue) (i n : ℕ) → i < n → n < 31 → place q i ≡ place q n → ⊥
apart q i n l h e =
    let a : ℕ = q.first + i in
    let c : ℕ = q.first + n in
    let f : a % 31 ≡ c % 31 = sym (flat q i) ∙ e ∙ flat q n in
    rests a c (a / 31) (c / 31) (c % 31) (rw f at (mod-add-div' a 31)) (mod-add-div' c 31) (omega (arith, l)) (omega (arith, h))

-- a place that is not among n is free to be set
set_other : (row : List Pulse) (j : ℕ) (p : Pulse) (q : Queue) (k n : ℕ) → ((i : ℕ) → i < n → place q (k + i) ≡ j → ⊥)
    → ranked (set row j p) q k n ≡ ranked row q k n
unfolding ranked
set_other row j p q k zero f = refl
set_other row j p q k (suc n) f =
    let z : k + 0 ≡ k = omega arith in
    rw (
      get_or-set_other row j (place q k) p (pulse_of 0 0 0) (λ e. f 0 (omega arith) (rw z e)),
      set_other row j p q (suc k) n (λ i l e. f (suc i) (omega arith) (let s : k + suc i ≡ suc k + i = omega arith in rw s e)),
    )

-- the last of one more
pub snoc : (row : List Pulse) (q : Queue) (k n : ℕ) → ranked row q k (suc n) ≡ ranked row q k n ++ (pulse_at row (place q (k + n)) ∷ [])
unfolding ranked
snoc row q k zero = let z : k + 0 ≡ k = omega arith in rw z
snoc row q k (suc n) =
    let e : k + suc n ≡ suc k + n = omega arith in
    rw e (ap (λ (l : List Pulse). pulse_at row (place q k) ∷ l) (snoc row q (suc k) n))

ranked-length : (row : List Pulse) (q : Queue) (k n : ℕ) → length (ranked row q k n) ≡ n
unfolding ranked
ranked-length row q k zero = refl
ranked-length row q k (suc n) = ap suc (ranked-length row q (suc k) n)

pub waiting-length : (row : List Pulse) (b : Board) → length (waiting row b) ≡ standing (queue_of b)
waiting-length row b = ranked-length row (queue_of b) 0 (standing (queue_of b))

pub behind-last : (row : List Pulse) (p : Pulse) (q : Queue) (n : ℕ) → n < 31 → 31 ≤ length row
    → ranked (set row (place q n) p) q 0 (suc n) ≡ ranked row q 0 n ++ (p ∷ [])
behind-last row p q n h l =
    let z : 0 + n ≡ n = omega arith in
    let s : pulse_at (set row (place q n) p) (place q n) ≡ p = get_or-set_same row (place q n) p (pulse_of 0 0 0) (omega (arith, place-low q n)) in
    snoc (set row (place q n) p) q 0 n
    ∙ rw (z, s, set_other row (place q n) p q 0 n (λ i g e. let y : 0 + i ≡ i = omega arith in apart q i n g h (rw y at e)))

module _ (p : Pulse) (row : List Pulse) (b : Board) (h : queue_row < length b) (l : 31 ≤ length row) (f : Fits p) where
  waits-joined : (queue_of b).standing < 31 → waiting (row_after b (accepted p b) row) (accepted p b) ≡ waiting row b ++ (p ∷ [])
  waits-joined s =
      let q : Queue = queue_of b in
      let n : standing q ≡ q.standing = omega arith in
      let m : standing (queue_of (accepted p b)) ≡ suc q.standing = rw (one_more p b h).1 (omega arith) in
      rw (stored p b h row f, m, n)
      (same_first (set row (place q q.standing) p) (queue_of (accepted p b)) q 0 (suc q.standing) (one_more p b h).0
      ∙ behind-last row p q q.standing s l)

  -- a request, on the ring and on the list
  pub view-pushed : list_in (row_after b (pushed p b) row) (pushed p b) ≡ join p (list_in row b)
  unfolding join
  view-pushed =
      let q : Queue = queue_of b in
      let n : length (waiting row b) ≡ standing q = waiting-length row b in
      by_cases (is_full q)
      (λ t. let full : leb 31 (standing q) ≡ true = le-leb 31 (standing q) (omega (arith, leb-true 31 q.standing t)) in
      rw (t, n, full, none-stored b row))
      (λ t. let s = leb-false 31 q.standing t in
      let room : leb 31 (standing q) ≡ false = lt-leb 31 (standing q) (omega (arith, s)) in
      rw (t, n, room, waits-joined s))
