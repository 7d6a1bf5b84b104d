-- What 02 says of the queue, in sentences.
--     time-adds         02, M-100, 4: m + n ms are m ms and then n, of none nothing happens, and d ms are d times 1 ms, marks included
--     first-come        02, M-100, 5: ms and a request do to the ring what they do to a list from which the first is taken
--     accepted-begins   02, M-100, 2: where none runs, the pulse that is asked for begins in that message
--     accepted-waits    02, M-100, 2: where one runs, the request changes nothing but the queue's own row, and of it neither the ms left nor what is remembered
--     begins-at-end     02, M-100, 2: the next begins at the end of the one before, in the same ms, behind the growing of clock and usage
--     ends_last         02, M-100, 2: where none is next, none begins
--     refused           02, M-100, 7: where 31 stand, `pulses::push` refuses, whose number is 14, and changes nothing
--     taken_in          02, M-100, 7: where fewer stand, it refuses nothing, which is answered 1, and the pulse is accepted
--     at-most-31        02, M-100, 2: where 31 stand at most, so it is behind any ms and any request
--     place-again       02, M-100, 2: behind an end of a full queue there is room, and the request goes to the place that was freed
--     place-low         02, M-100, 5: every place is one of the row's first 31 (in Ring)
--     row_kept          02, M-100, 5: of the row, only the record of the accepted request changes;   tail-kept   none from the 32nd on does
--     first-kept        02, M-100, 5: and never the record of the running pulse
--     reads-low         02, M-100, 5: and none from there on is looked at
--     short_row         02, M-100, 5: with a row under 31, a call of time answers 4 and does nothing
--     requests-fit      02, M-100, 1: what actions 6 and 7 ask for fits the fields of a record
--     action-6          02, M-100, 1: a pulse of relay k has the bit of this relay, and no other, in mask and states
use mathlib.Core.Path.{◌≡◌, refl, sym, ap, ◌∙◌}
use mathlib.Core.Bool.{true, false}
use mathlib.Core.List.{List}
use Prim.Native.Nat.{ℕ, zero, suc, ◌+◌, ◌-◌, ◌%◌, ◌^◌, ◌<◌, ◌≤◌}
use native.Mathlib.Nat.{mod-add-mod, add-mod_right, zero-div, div-eq_of_lt}
use native.Mathlib.Omega.{arith}
use native.Mathlib.Numerals.{add-one}
use lib.Dec.{ltb, eqb}
use lib.ListN.{length, take, drop, length-set}
use lib.Seq.{get_or-set_other, get_or-take, drop-set-lt}
use lib.Pow.{pow_pos, pow-lt}
use borrow.Author.Tests.{ltb-true, ltb-false, leb-false, le-leb, lt-leb, lt-ltb, le-ltb, eq-eqb, ne_eqb, eqb-true, eqb-false}
use Rattle.std.specs.Prelude.{Some, Ok, Err}
use Rattle.refusals.specs.declared.Refusal.TheVariants.{ShortBuffer, QueueFull}
use Rattle.refusals.specs.Refusals.{number_of, answer_of}
use Rattle.laws.specs.Times.{times}
use Rattle.laws.proofs.Flow.{times-add}
use Rattle.laws.proofs.Tests.{by_cases, and_left}
use Rattle.records.specs.declared.Queue.{Queue}
use Rattle.rows.specs.Places.{Board, is_relay, relay_at, queue_row, queue_of, put_queue}
use Rattle.rows.proofs.Channel.{relay-range}
use Rattle.records.specs.Held as held
use Rattle.laws.specs.Bits.{bit_of}
use Rattle.tables.specs.Time.{passed}
use Rattle.ring.specs.declared.Pulse.{Pulse}
use Rattle.pulses.specs.Pulses.{states_below, states_of, begun, ended, turned, ends_within, tick, elapsed, accepted}
use Rattle.ring.specs.Ring.{pulse_of, relay_pulse, pulse_at, standing, is_full, runs, place, joined, newest, seat_of, row_after}
use Rattle.pulses.specs.Passing.{going, start_of}
use Rattle.pulses.proofs.Apart.{queue-passed}
use Rattle.pulses.proofs.Bits.{bit_added, bit-top}
use Rattle.pulses.proofs.Passing.{has-row, queue-ended, one-gone, stays-waited}
use Rattle.pulses.proofs.push.Reads as push
use Rattle.queue.specs.Listed.{list_in, elapse, join, pushed, Fits}
use Rattle.queue.proofs.Ring.{flat, place-low, queue-begun, view-elapsed, view-pushed, queue-waits, queue-begins, one_more, seat-is, none-stored, apart}
use Rattle.queue.proofs.Relays.{begins, relay-put, put-length, begun-length, ended-length}

-- ---- time

pub time-adds : (row : List Pulse) (b : Board)
    → ((m n : ℕ) → elapsed row (m + n) b ≡ elapsed row n (elapsed row m b)) × (elapsed row 0 b ≡ b) × ((d : ℕ) → elapsed row d b ≡ times d (elapsed row 1) b)
unfolding elapsed
time-adds row b = (
  λ m n. ap (λ (k : ℕ). times k (tick row) b) {x = m + n} {y = n + m} (omega arith) ∙ times-add n m (tick row) b,
  refl,
  λ d. refl,
)

-- ---- first come, first run

pub first-come : (row : List Pulse) (b : Board)
    → ((d : ℕ) → list_in row (elapsed row d b) ≡ times d elapse (list_in row b))
    × ((p : Pulse) → queue_row < length b → 31 ≤ length row → Fits p → list_in (row_after b (pushed p b) row) (pushed p b) ≡ join p (list_in row b))
first-come row b = (λ d. view-elapsed row d b, λ p h l f. view-pushed p row b h l f)

-- ---- a request

same-states : (n : ℕ) (q : Queue) (b : Board) → n ≤ 16 → states_below n (put_queue q b) ≡ states_below n b
unfolding states_below
same-states zero q b h = refl
same-states (suc n) q b h =
    let e : relay_at (suc n) (put_queue q b) ≡ relay_at (suc n) b = rw add-one at (relay-put q n b (omega arith)) in
    rw (same-states n q b (omega arith), e)

module _ (p : Pulse) (b : Board) (h : queue_row < length b) where
  -- the ms left, what is remembered, and each masked relay
  pub accepted-begins : runs (queue_of b) ≡ false → ((queue_of (accepted p b)).left ≡ p.duration) × ((queue_of (accepted p b)).remembered ≡ states_of b)
      × ((k : ℕ) → k < 16 → bit_of p.mask k ≡ true → relay_at (k + 1) (accepted p b) ≡ held.switched (bit_of p.states k) (relay_at (k + 1) b))
  unfolding accepted
  accepted-begins r =
      let q : Queue = joined p (queue_of b) in
      let e = queue-begins p b h r in (
        ap (λ (x : Queue). x.left) e,
        ap (λ (x : Queue). x.remembered) e ∙ same-states 16 q b (omega arith),
        λ k j m. rw r (begins p (put_queue q b) k j (rw (put-length q b) (omega arith)) m ∙ rw (relay-put q k b j)),
      )

  pub accepted-waits : runs (queue_of b) ≡ true → (accepted p b ≡ put_queue (queue_of (accepted p b)) b)
      × ((queue_of (accepted p b)).left ≡ (queue_of b).left) × ((queue_of (accepted p b)).remembered ≡ (queue_of b).remembered)
  unfolding accepted
  accepted-waits r =
      let e = queue-waits p b h r in
      let only : accepted p b ≡ put_queue (joined p (queue_of b)) b = rw r in (
        only ∙ ap (λ (x : Queue). put_queue x b) (sym e),
        ap (λ (x : Queue). x.left) e,
        ap (λ (x : Queue). x.remembered) e,
      )

-- ---- the end of one is the beginning of the next

module _ (row : List Pulse) (b : Board) (e : ends_within 1 (queue_of b) ≡ true) where
  -- what the tick does, and the queue behind the end
  ends_now : tick row b ≡ turned (pulse_at row (place (queue_of b) 0)) (pulse_at row (place (queue_of b) 1)) (passed 1 b)
  unfolding tick
  ends_now = rw e

  left_over : (queue_of (ended (pulse_at row (place (queue_of b) 0)) (passed 1 b))).standing ≡ standing (queue_of b) - 1
  left_over =
      let same : queue_of (passed 1 b) ≡ queue_of b = queue-passed 1 b in
      ap (λ (q : Queue). q.standing) (queue-ended (pulse_at row (place (queue_of b) 0)) (passed 1 b) (rw same (and_left (runs (queue_of b)) _ e)))
      ∙ ap (λ (q : Queue). standing q - 1) same

  pub begins-at-end : 1 < (queue_of b).standing
      → tick row b ≡ begun (pulse_at row (place (queue_of b) 1)) (ended (pulse_at row (place (queue_of b) 0)) (passed 1 b))
  unfolding turned
  begins-at-end h =
      let some : runs (queue_of (ended (pulse_at row (place (queue_of b) 0)) (passed 1 b))) ≡ true =
      rw left_over (lt-ltb 0 (standing (queue_of b) - 1) (omega arith)) in
      ends_now ∙ rw some

  pub ends_last : (queue_of b).standing ≤ 1 → tick row b ≡ ended (pulse_at row (place (queue_of b) 0)) (passed 1 b)
  unfolding turned
  ends_last h =
      let none : runs (queue_of (ended (pulse_at row (place (queue_of b) 0)) (passed 1 b))) ≡ false =
      rw left_over (le-ltb 0 (standing (queue_of b) - 1) (omega arith)) in
      ends_now ∙ rw none

-- ---- refused, or taken in

pub refused : (κs : _) (a : _) (r : _) (s : _) → push.Post κs a r s → 31 ≤ (queue_of a.0.now).standing
    → (r ≡ Err QueueFull) × (number_of QueueFull ≡ 14) × (s.0.now ≡ a.0.now)
refused κs a r s post h =
    let t : is_full (queue_of a.0.now) ≡ true = le-leb 31 (queue_of a.0.now).standing h in
    (rw t at post.1, refl, rw t at post.0)

pub taken_in : (κs : _) (a : _) (r : _) (s : _) → push.Post κs a r s → (queue_of a.0.now).standing < 31
    → (r ≡ Ok tt) × (answer_of r ≡ 1) × (s.0.now ≡ accepted a.1.0 a.0.now)
taken_in κs a r s post h =
    let t : is_full (queue_of a.0.now) ≡ false = lt-leb 31 (queue_of a.0.now).standing h in
    let served : r ≡ Ok tt = rw t at post.1 in
    (served, ap answer_of served, rw t at post.0)

-- ---- at most 31

tick-most : (row : List Pulse) (b : Board) → (queue_of b).standing ≤ 31 → (queue_of (tick row b)).standing ≤ 31
unfolding tick
tick-most row b h =
    by_cases (ends_within 1 (queue_of b))
    (λ e. let same : queue_of (passed 1 b) ≡ queue_of b = queue-passed 1 b in
    let n = one-gone (pulse_at row (place (queue_of b) 0)) (pulse_at row (place (queue_of b) 1)) (passed 1 b) (rw same (and_left (runs (queue_of b)) _ e)) in
    rw e (rw n (omega arith)))
    (λ e. rw e (rw (stays-waited 1 b) h))

elapsed-most : (row : List Pulse) (d : ℕ) (b : Board) → (queue_of b).standing ≤ 31 → (queue_of (elapsed row d b)).standing ≤ 31
unfolding elapsed
elapsed-most row zero b h = h
elapsed-most row (suc d) b h = tick-most row (times d (tick row) b) (elapsed-most row d b h)

pushed_most : (p : Pulse) (b : Board) → queue_row < length b → (queue_of b).standing ≤ 31 → (queue_of (pushed p b)).standing ≤ 31
pushed_most p b l h =
    by_cases (is_full (queue_of b))
    (λ t. rw t h)
    (λ f. let n = leb-false 31 (queue_of b).standing f in rw f (rw (one_more p b l).1 (omega arith)))

pub at-most-31 : (b : Board) → (queue_of b).standing ≤ 31
    → ((row : List Pulse) (d : ℕ) → (queue_of (elapsed row d b)).standing ≤ 31) × ((p : Pulse) → queue_row < length b → (queue_of (pushed p b)).standing ≤ 31)
at-most-31 b h = (λ row d. elapsed-most row d b h, λ p l. pushed_most p b l h)

-- ---- places of the row

-- the queue behind an end, and a beginning
module _ (p next : Pulse) (b : Board) (r : runs (queue_of b) ≡ true) where
  first_on : (queue_of (turned p next b)).first ≡ place (queue_of b) 1
  unfolding turned
  first_on =
      let e : (queue_of (ended p b)).first ≡ place (queue_of b) 1 = ap (λ (q : Queue). q.first) (queue-ended p b r) in
      by_cases (runs (queue_of (ended p b)))
      (λ s. rw s (ap (λ (q : Queue). q.first) (queue-begun next (ended p b) (rw (ended-length p b) (has-row b r))) ∙ e))
      (λ s. rw s e)

  turned-length : length (turned p next b) ≡ length b
  unfolding turned
  turned-length =
      by_cases (runs (queue_of (ended p b)))
      (λ s. rw s (begun-length next (ended p b) ∙ ended-length p b))
      (λ s. rw s (ended-length p b))

-- 30 places behind the next is the first
round : (q q' : Queue) → q'.first ≡ place q 1 → place q' 30 ≡ place q 0
round q q' e =
    let f : place q' 30 ≡ (place q 1 + 30) % 31 = flat q' 30 ∙ ap (λ (i : ℕ). (i + 30) % 31) e in
    let g : (place q 1 + 30) % 31 ≡ (q.first + 1 + 30) % 31 = ap (λ (i : ℕ). (i + 30) % 31) (flat q 1) ∙ mod-add-mod (q.first + 1) 31 30 in
    let i : q.first + 1 + 30 ≡ q.first + 31 = omega arith in
    let z : q.first + 0 ≡ q.first = omega arith in
    f ∙ g ∙ ap (λ (n : ℕ). n % 31) i ∙ add-mod_right q.first 31 ∙ sym (flat q 0 ∙ ap (λ (n : ℕ). n % 31) z)

pub place-again : (p next new : Pulse) (b : Board) → (queue_of b).standing ≡ 31
    → (is_full (queue_of (turned p next b)) ≡ false)
    × (seat_of (queue_of (turned p next b)) (queue_of (accepted new (turned p next b))) ≡ Some (place (queue_of b) 0))
place-again p next new b h =
    let r : runs (queue_of b) ≡ true = rw h in
    let z : Board = turned p next b in
    let n : (queue_of z).standing ≡ 30 = one-gone p next b r ∙ rw h in
    let l : queue_row < length z = rw (turned-length p next b r) (has-row b r) in (
      rw n,
      seat-is new z l ∙ ap Some (ap (place (queue_of z)) n ∙ round (queue_of b) (queue_of z) (first_on p next b r)),
    )

module _ (b b' : Board) (row : List Pulse) where
  pub row_kept : (i : ℕ) → (i ≡ place (queue_of b') ((queue_of b').standing - 1) → ⊥) → pulse_at (row_after b b' row) i ≡ pulse_at row i
  unfolding row_after
  row_kept i f =
      let q : Queue = queue_of b' in
      by_cases (ltb (queue_of b).standing q.standing)
      (λ t. rw t (get_or-set_other row (place q (q.standing - 1)) i (newest b') (pulse_of 0 0 0) f))
      (λ n. rw n)

  pub tail-kept : (drop 31 (row_after b b' row) ≡ drop 31 row) × (length (row_after b b' row) ≡ length row)
  unfolding row_after
  tail-kept =
      let q : Queue = queue_of b' in
      let i : ℕ = place q (q.standing - 1) in
      by_cases (ltb (queue_of b).standing q.standing)
      (λ t. rw t (drop-set-lt 31 row i (newest b') (place-low q (q.standing - 1)), length-set row i (newest b')))
      (λ n. rw n (refl, refl))

pub first-kept : (p : Pulse) (row : List Pulse) (b : Board) → runs (queue_of b) ≡ true
    → pulse_at (row_after b (pushed p b) row) (place (queue_of b) 0) ≡ pulse_at row (place (queue_of b) 0)
first-kept p row b r =
    let q : Queue = queue_of b in
    let some = ltb-true 0 q.standing r in
    by_cases (is_full q)
    (λ t. rw (t, none-stored b row))
    (λ f. let more = one_more p b (has-row b r) in
    let e : q.standing + 1 - 1 ≡ q.standing = omega arith in
    let last : place (queue_of (accepted p b)) ((queue_of (accepted p b)).standing - 1) ≡ place q q.standing = rw (more.0, more.1, e) in
    rw f (row_kept b (accepted p b) row (place q 0) (λ i. apart q 0 q.standing some (leb-false 31 q.standing f) (i ∙ last))))

-- only the first 31 records are read
low : (row : List Pulse) (q : Queue) (k : ℕ) → pulse_at (take 31 row) (place q k) ≡ pulse_at row (place q k)
low row q k = get_or-take 31 row (place q k) (pulse_of 0 0 0) (place-low q k)

pub reads-low : (row : List Pulse) (d : ℕ) (b : Board) → elapsed (take 31 row) d b ≡ elapsed row d b
unfolding elapsed tick
reads-low row zero b = refl
reads-low row (suc d) b = ap (tick (take 31 row)) (reads-low row d b) ∙ same (times d (tick row) b)
  where
    same : (b : Board) → tick (take 31 row) b ≡ tick row b
    same b = rw (low row (queue_of b) 0, low row (queue_of b) 1)

pub short_row : (records d : ℕ) (b : Board) → records < 31 → (start_of records d b ≡ going b (Err ShortBuffer)) × (number_of ShortBuffer ≡ 4)
unfolding start_of
short_row records d b h = (rw (lt-ltb records 31 h), refl)

-- ---- action 6

one_bit : (i j : ℕ) → bit_of (2 ^ i) j ≡ eqb j i
one_bit i j =
    let z : 0 + 2 ^ i ≡ 2 ^ i = omega arith in
    by_cases (ltb j i)
    (λ t. let l = ltb-true j i t in rw z at (bit_added i 0 j true l) ∙ rw (zero-div (2 ^ j)) (sym (ne_eqb j i (λ e. omega arith))))
    (λ f. by_cases (ltb i j)
    (λ t. let l = ltb-true i j t in rw (div-eq_of_lt (pow-lt l)) (sym (ne_eqb j i (λ e. omega arith))))
    (λ g. let e : j ≡ i = omega (arith, ltb-false j i f, ltb-false i j g) in rw e (rw z at (bit-top i 0 true (pow_pos i)) ∙ sym (eq-eqb i i refl))))

pub action-6 : (k ms : ℕ) → is_relay k ≡ true
    → ((j : ℕ) → bit_of (relay_pulse k ms).mask j ≡ eqb (j + 1) k) × ((relay_pulse k ms).states ≡ (relay_pulse k ms).mask) × ((relay_pulse k ms).duration ≡ ms)
unfolding relay_pulse
action-6 k ms h = (λ j. rw h (one_bit (k - 1) j ∙ shifted j), refl, refl)
  where
    shifted : (j : ℕ) → eqb j (k - 1) ≡ eqb (j + 1) k
    shifted j =
        let l = relay-range k (sym h) refl in
        by_cases (eqb j (k - 1))
        (λ t. rw (t, eq-eqb (j + 1) k (omega (arith, l, eqb-true j (k - 1) t))))
        (λ f. rw (f, ne_eqb (j + 1) k (λ e. eqb-false j (k - 1) f (omega arith))))

pub requests-fit : (ms : ℕ) → ms < 2 ^ 32 → ((k : ℕ) → Fits (relay_pulse k ms)) × ((mask states : ℕ) → mask < 256 → states < 256 → Fits (pulse_of mask states ms))
unfolding relay_pulse
requests-fit ms h = (
  λ k. by_cases (is_relay k)
      (λ t. let l = relay-range k (sym t) refl in
      let low : 2 ^ (k - 1) < 2 ^ 16 = pow-lt {i = k - 1} {j = 16} (omega (arith, l)) in
      rw t (record { mask = low; states = low; duration = h }))
      (λ f. rw f (record { mask = omega arith; states = omega arith; duration = h })),
  λ mask states m s. record { mask = omega arith; states = omega arith; duration = h },
)
