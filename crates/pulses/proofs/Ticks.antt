-- How time goes from end to end of the pulses.
--     tick-waited   one ms behind n in which none ended
--     quiet         where no pulse ends within d ms, d times 1 ms only waits
--     jump          where one does, the ms up to its end are one turn
use mathlib.Core.Path.{◌≡◌, refl, sym, ap, ◌∙◌}
use mathlib.Core.Bool.{true, false, true≢false, cond}
use mathlib.Core.List.{List, [], ◌∷◌}
use Prim.Native.Nat.{ℕ, zero, suc, ◌+◌, ◌-◌, max}
use native.Mathlib.Nat.{sub-zero}
use native.Mathlib.Omega.{arith}
use lib.Dec.{leb}
use lib.ListN.{set}
use lib.Seq.{set-set, set-get_or}
use borrow.Author.Tests.{leb-true, leb-false, le-leb, lt-leb}
use Rattle.laws.specs.Times.{times}
use Rattle.laws.proofs.Flow.{times-add}
use Rattle.laws.proofs.Tests.{by_cases, and_left, and_right}
use Rattle.records.specs.declared.Queue.{Queue}
use Rattle.records.specs.Records.{word, left_word}
use Rattle.rows.specs.Places.{Board, row_at, queue_row, queue_of, put_queue, left_set}
use Rattle.tables.specs.Time.{passed}
use Rattle.tables.proofs.Theorems.{passed-flow}
use Rattle.ring.specs.declared.Pulse.{Pulse}
use Rattle.pulses.specs.Pulses.{lasts, ends_within, ended, followed, turned, waited, tick}
use Rattle.ring.specs.Ring.{pulse_at, place, runs}
use Rattle.pulses.proofs.Apart.{queue-passed, left_passed}

-- ---- the ms left, set anew

-- the queue with other ms left
abbrev pub leaving : ℕ → Queue → Queue
leaving v q =
    record {
      first = q.first;
      standing = q.standing;
      left = v;
      remembered = q.remembered;
      mask = q.mask;
      states = q.states;
      duration = q.duration;
    }

-- the row that is stored is there, also where there is none
row-again : (n v : ℕ) (b : Board) → row_at n (set b n (set (row_at n b) left_word v)) ≡ set (row_at n b) left_word v
row-again n v [] = refl
row-again zero v (row ∷ b) = refl
row-again (suc n) v (row ∷ b) = row-again n v b

-- and so is the word: one that is not there is 0, and can be no less
word-again : (n : ℕ) (row : List ℕ) → word left_word (set row left_word (word left_word row - n)) ≡ word left_word row - n
word-again n [] = omega arith
word-again n (x ∷ []) = omega arith
word-again n (x ∷ y ∷ []) = omega arith
word-again n (x ∷ y ∷ z ∷ row) = refl

others-again : (j v : ℕ) (row : List ℕ) → word (suc (suc (suc j))) (set row left_word v) ≡ word (suc (suc (suc j))) row
others-again j v [] = refl
others-again j v (x ∷ []) = refl
others-again j v (x ∷ y ∷ []) = refl
others-again j v (x ∷ y ∷ z ∷ row) = refl

first-again : (v : ℕ) (row : List ℕ) → (word 0 (set row left_word v) ≡ word 0 row) × (word 1 (set row left_word v) ≡ word 1 row)
first-again v [] = (refl, refl)
first-again v (x ∷ []) = (refl, refl)
first-again v (x ∷ y ∷ []) = (refl, refl)
first-again v (x ∷ y ∷ z ∷ row) = (refl, refl)

pub left-told : (n : ℕ) (b : Board) → queue_of (left_set ((queue_of b).left - n) b) ≡ leaving ((queue_of b).left - n) (queue_of b)
unfolding queue_of left_set
left-told n b =
    let row : List ℕ = row_at queue_row b in
    let v : ℕ = word left_word row - n in
    rw (
      row-again queue_row v b,
      word-again n row,
      (first-again v row).0,
      (first-again v row).1,
      others-again 0 v row,
      others-again 1 v row,
      others-again 2 v row,
      others-again 3 v row,
    )

left-left : (v w : ℕ) (b : Board) → left_set w (left_set v b) ≡ left_set w b
unfolding left_set
left-left v w b = rw (row-again queue_row v b, set-set (row_at queue_row b) left_word v w) (set-set b queue_row _ _)

left-same : (b : Board) → left_set (queue_of b).left b ≡ b
unfolding queue_of left_set
left-same b = rw (set-get_or (row_at queue_row b) left_word 0) (set-get_or b queue_row [])

put-left : (v : ℕ) (q : Queue) (b : Board) → put_queue q (left_set v b) ≡ put_queue q b
unfolding put_queue left_set
put-left v q b = set-set b queue_row _ _

-- an end does not look at the ms left
ended-left : (n : ℕ) (p : Pulse) (b : Board) → ended p (left_set ((queue_of b).left - n) b) ≡ ended p b
unfolding ended
ended-left n p b = rw (left-told n b, put-left ((queue_of b).left - n) _ b)

turned_left : (n : ℕ) (p next : Pulse) (b : Board) → turned p next (left_set ((queue_of b).left - n) b) ≡ turned p next b
unfolding turned
turned_left n p next b = ap (followed next) (ended-left n p b)

-- ---- one ms more

soon : (l n : ℕ) → leb (max 1 (l - n)) 1 ≡ leb (max 1 l) (suc n)
soon l n =
    by_cases (leb (max 1 l) (suc n))
    (λ t. rw (t, le-leb (max 1 (l - n)) 1 (omega (arith, leb-true (max 1 l) (suc n) t))))
    (λ f. rw (f, lt-leb (max 1 (l - n)) 1 (omega (arith, leb-false (max 1 l) (suc n) f))))

module _ (row : List Pulse) where
  -- what ends, and what follows
  abbrev turning : Queue → Board → Board
  turning q = turned (pulse_at row (place q 0)) (pulse_at row (place q 1))

  -- d ms and one more, with the ms left set between them
  waits-on : (n v : ℕ) (b : Board) → passed 1 (left_set v (passed n b)) ≡ left_set v (passed (suc n) b)
  waits-on n v b = left_passed 1 v (passed n b) ∙ ap (left_set v) (passed-flow.more n b)

  turns-on : (n : ℕ) (b : Board) → turning (queue_of b) (passed 1 (left_set ((queue_of b).left - n) (passed n b))) ≡ turning (queue_of b) (passed (suc n) b)
  turns-on n b =
      ap (turning (queue_of b)) (waits-on n ((queue_of b).left - n) b ∙ rw (← queue-passed (suc n) b))
      ∙ turned_left n _ _ (passed (suc n) b)

  tick-running : (n : ℕ) (b : Board) → runs (queue_of b) ≡ true
      → tick row (left_set ((queue_of b).left - n) (passed n b))
      ≡ cond (ends_within (suc n) (queue_of b)) (turning (queue_of b) (passed (suc n) b)) (left_set ((queue_of b).left - suc n) (passed (suc n) b))
  unfolding tick waited
  tick-running n b r =
      let e : queue_of (left_set ((queue_of b).left - n) (passed n b)) ≡ leaving ((queue_of b).left - n) (queue_of b) =
      rw (← queue-passed n b) (left-told n (passed n b)) in
      let m : (queue_of b).left - n - 1 ≡ (queue_of b).left - suc n = omega arith in
      rw (e, r, soon (queue_of b).left n, turns-on n b, waits-on n ((queue_of b).left - n) b, left-left, m)

  tick-empty : (n : ℕ) (b : Board) → runs (queue_of b) ≡ false → tick row (passed n b) ≡ passed (suc n) b
  unfolding tick waited
  tick-empty n b r = rw (queue-passed n b, r) (passed-flow.more n b)

  pub tick-waited : (n : ℕ) (b : Board)
      → tick row (waited n b) ≡ cond (ends_within (suc n) (queue_of b)) (turning (queue_of b) (passed (suc n) b)) (waited (suc n) b)
  unfolding waited
  tick-waited n b =
      by_cases (runs (queue_of b))
      (λ r. rw r (rw r at (tick-running n b r)))
      (λ r. rw r (tick-empty n b r))

  waited-none : (b : Board) → b ≡ waited 0 b
  unfolding waited
  waited-none b =
      by_cases (runs (queue_of b))
      (λ r. rw (r, passed-flow.still b, sub-zero (queue_of b).left) (sym (left-same b)))
      (λ r. rw (r, passed-flow.still b))

  pub quiet : (d : ℕ) (b : Board) → ends_within d (queue_of b) ≡ false → times d (tick row) b ≡ waited d b
  quiet zero b e = waited-none b
  quiet (suc d) b e = ap (tick row) (quiet d b (sooner (queue_of b) d e)) ∙ tick-waited d b ∙ rw e
    where
      sooner : (q : Queue) (d : ℕ) → ends_within (suc d) q ≡ false → ends_within d q ≡ false
      sooner q d e =
          by_cases (ends_within d q)
          (λ t. let l = leb-true (lasts q) d (and_right (runs q) _ t) in
          absurd (true≢false (sym (rw (and_left (runs q) _ t) (le-leb (lasts q) (suc d) (omega (arith, l)))) ∙ e)))
          (λ f. f)

  -- up to the end of the running pulse
  turns-once : (m : ℕ) (b : Board) → runs (queue_of b) ≡ true → lasts (queue_of b) ≡ suc m
      → times (suc m) (tick row) b ≡ turning (queue_of b) (passed (suc m) b)
  turns-once m b r e =
      let before : ends_within m (queue_of b) ≡ false = rw (r, lt-leb (lasts (queue_of b)) m (omega (arith, e))) in
      let within : ends_within (suc m) (queue_of b) ≡ true = rw (r, le-leb (lasts (queue_of b)) (suc m) (omega (arith, e))) in
      ap (tick row) (quiet m b before) ∙ tick-waited m b ∙ rw within

  pub jump : (d : ℕ) (b : Board) → ends_within d (queue_of b) ≡ true
      → times d (tick row) b ≡ times (d - lasts (queue_of b)) (tick row) (turning (queue_of b) (passed (lasts (queue_of b)) b))
  jump d b e =
      let q : Queue = queue_of b in
      let l = leb-true (lasts q) d (and_right (runs q) _ e) in
      let s : lasts q ≡ suc (lasts q - 1) = omega arith in
      let n : d ≡ (d - lasts q) + lasts q = omega (arith, l) in
      ap (λ (k : ℕ). times k (tick row) b) n ∙ times-add (d - lasts q) (lasts q) (tick row) b
      ∙ ap (times (d - lasts q) (tick row)) (rw s (turns-once (lasts q - 1) b (and_left (runs q) _ e) s))
