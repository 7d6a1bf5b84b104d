-- What time does to a pulse that runs.
--     nothing-else       02, M-100, 4: ms within which no pulse ends take nothing but the ms left from the queue, and change no state and no mark
--     returns-whatever   02, M-100, 3: after its ms a pulse ends with its masked relays as they were at its beginning, whatever was done meanwhile that
--                        left it its place, its ms and what it remembers: Meanwhile has what does
--     request-beside     02, M-100, 2: and a request is among that
--     lasts-its-time     02, M-100, 1 and 4: a pulse of d ms closes its relay for d ms of usage, and no longer
use mathlib.Core.Path.{◌≡◌, refl, sym, ap, ◌∙◌}
use mathlib.Core.Bool.{true, false, cond}
use mathlib.Core.List.{List, []}
use Prim.Native.Nat.{ℕ, zero, suc, ◌+◌, ◌-◌, ◌<◌, ◌≤◌, max}
use native.Mathlib.Omega.{arith}
use lib.Dec.{leb, ltb}
use lib.ListN.{length, set, length-set}
use lib.Seq.{get_or-set_same, get_or-set_other}
use borrow.Author.Tests.{ltb-true, ltb-false, le-leb, lt-leb, lt-ltb}
use Rattle.laws.proofs.Tests.{by_cases}
use Rattle.records.specs.declared.Queue.{Queue}
use Rattle.records.specs.declared.Relay.{Relay}
use Rattle.records.specs.Records.{word, state_word, usage_word, is_on}
use Rattle.rows.specs.Places.{Board, is_relay, row_at, relay_at, line_at, relay_place, line_place}
use Rattle.rows.specs.Places.{first_outer, clock_row, clock_set, queue_row, queue_of, put_queue, left_set, on_rows}
use Rattle.rows.proofs.Channel.{relay-range, channel}
use Rattle.rows.proofs.Range.{within, behind}
use Rattle.records.specs.Held as held
use Rattle.laws.specs.Bits.{bit_of}
use Rattle.tables.specs.Time.{grown, usage_passed, relay_passed, passed}
use Rattle.tables.proofs.Views.{time-relay}
use Rattle.ring.specs.declared.Pulse.{Pulse}
use Rattle.pulses.specs.Pulses.{lasts, ends_within, states_of, beginning, begun, ended, turned, waited, tick, elapsed, accepted}
use Rattle.ring.specs.Ring.{pulse_of, pulse_at, is_full, runs, place, joined, row_after}
use Rattle.pulses.proofs.Apart.{queue-passed}
use Rattle.pulses.proofs.Ticks.{leaving, left-told, quiet, jump}
use Rattle.pulses.proofs.Passing.{no_row, has-row, queue-ended}
use Rattle.queue.specs.Listed.{pushed, Fits}
use Rattle.queue.specs.Meanwhile.{Beside, meddled, in_last}
use Rattle.queue.proofs.Ring.{queue-begun, queue-waits, queue-begins, stored, place-low}
use Rattle.queue.proofs.Relays.{rows-length, relay-put, begins, begins-row, returns, begun-length, put-length}

-- ---- what only waits

passed_length : (d : ℕ) (b : Board) → length (passed d b) ≡ length b
unfolding passed clock_set
passed_length d b = rw length-set (rows-length 0 first_outer (λ _. usage_passed d) b)

left-length : (v : ℕ) (b : Board) → length (left_set v b) ≡ length b
unfolding left_set
left-length v b = length-set b queue_row _

-- the states of the relays
state-kept : (d : ℕ) (row : List ℕ) → word state_word (usage_passed d row) ≡ word state_word row
unfolding usage_passed
state-kept d row =
    by_cases (is_on (word state_word row))
    (λ t. rw t (get_or-set_other row usage_word state_word _ 0 (λ e. omega arith)))
    (λ f. rw f)

state-used : (d j : ℕ) (b : Board) → word state_word (row_at j (on_rows 0 first_outer (λ _. usage_passed d) b)) ≡ word state_word (row_at j b)
state-used d j b =
    by_cases (ltb j first_outer)
    (λ o. by_cases (ltb j (length b))
    (λ t. ap (word state_word) (within first_outer j (λ _. usage_passed d) b (ltb-true j first_outer o) (ltb-true j (length b) t)) ∙ state-kept d (row_at j b))
    (λ f. let l = ltb-false j (length b) f in
    rw (no_row j (on_rows 0 first_outer (λ _. usage_passed d) b) (rw (rows-length 0 first_outer (λ _. usage_passed d) b) l), no_row j b l)))
    (λ o. ap (word state_word) (behind first_outer j (λ _. usage_passed d) b (ltb-false j first_outer o)))

state-passed : (d j : ℕ) (b : Board) → j < clock_row → word state_word (row_at j (passed d b)) ≡ word state_word (row_at j b)
unfolding passed clock_set
state-passed d j b h =
    ap (word state_word) (get_or-set_other (on_rows 0 first_outer (λ _. usage_passed d) b) clock_row j _ [] (λ e. omega arith)) ∙ state-used d j b

closed-passed : (d k : ℕ) (b : Board) → (relay_at k (passed d b)).closed ≡ (relay_at k b).closed
unfolding relay_at
closed-passed d k b =
    by_cases (is_relay k)
    (λ t. let h = relay-range k (sym t) refl in rw t (ap is_on (state-passed d (relay_place k) b (omega (arith, h)))))
    (λ f. rw f)

relay-left : (v k : ℕ) (b : Board) → relay_at k (left_set v b) ≡ relay_at k b
unfolding relay_at left_set
relay-left v k b =
    by_cases (is_relay k)
    (λ t. let h = relay-range k (sym t) refl in rw (t, get_or-set_other b queue_row (relay_place k) _ [] (λ e. omega (arith, h))))
    (λ f. rw f)

-- the connections
row-later : (d j : ℕ) (b : Board) → clock_row < j → row_at j (passed d b) ≡ row_at j b
unfolding passed clock_set
row-later d j b h =
    get_or-set_other (on_rows 0 first_outer (λ _. usage_passed d) b) clock_row j _ [] (λ e. omega arith) ∙ behind first_outer j (λ _. usage_passed d) b (omega arith)

line-passed : (d c : ℕ) (b : Board) → c < 4 → line_at c (passed d b) ≡ line_at c b
unfolding line_at
line-passed d c b h = rw (row-later d (line_place c) b (omega arith))

line-left : (v c : ℕ) (b : Board) → c < 4 → line_at c (left_set v b) ≡ line_at c b
unfolding line_at left_set
line-left v c b h = rw (get_or-set_other b queue_row (line_place c) _ [] (λ e. omega arith))

queue-left : (d : ℕ) (b : Board) → queue_of (left_set ((queue_of b).left - d) (passed d b)) ≡ leaving ((queue_of b).left - d) (queue_of b)
queue-left d b = rw (queue-passed d b) at (left-told d (passed d b))

module _ (row : List Pulse) (d : ℕ) (b : Board) (e : ends_within d (queue_of b) ≡ false) where
  pub nothing-else : (queue_of (elapsed row d b) ≡ cond (runs (queue_of b)) (leaving ((queue_of b).left - d) (queue_of b)) (queue_of b))
      × ((k : ℕ) → (relay_at k (elapsed row d b)).closed ≡ (relay_at k b).closed) × ((c : ℕ) → c < 4 → line_at c (elapsed row d b) ≡ line_at c b)
  unfolding elapsed waited
  nothing-else =
      let v : ℕ = (queue_of b).left - d in
      rw (quiet row d b e)
      (by_cases (runs (queue_of b))
      (λ r. rw r (
        queue-left d b,
        λ k. ap (λ (x : Relay). x.closed) (relay-left v k (passed d b)) ∙ closed-passed d k b,
        λ c h. line-left v c (passed d b) h ∙ line-passed d c b h,
      ))
      (λ r. rw r (queue-passed d b, λ k. closed-passed d k b, λ c h. line-passed d c b h)))

-- ---- whatever is done meanwhile

-- a pulse that has run for n ms
record Running (p : Pulse) (b : Board) (n : ℕ) (z : Board) : Type 0 where
  first : (queue_of z).first ≡ (queue_of b).first
  left : (queue_of z).left ≡ p.duration - n
  remembered : (queue_of z).remembered ≡ states_of b
  still-runs : runs (queue_of z) ≡ true
  size : length z ≡ length b

-- what was done leaves it running
go-beside : {p : Pulse} {b : Board} {n : ℕ} {z z' : Board} → Running p b n z → Beside z z' → Running p b n z'
go-beside m s =
    record {
      first = s.first ∙ m.first;
      left = s.left ∙ m.left;
      remembered = s.remembered ∙ m.remembered;
      still-runs = s.still-runs;
      size = s.size ∙ m.size;
    }

-- and so does one ms more, up to its last
tick-waits : (row : List Pulse) (z : Board) → runs (queue_of z) ≡ true → 1 < (queue_of z).left → tick row z ≡ left_set ((queue_of z).left - 1) (passed 1 z)
unfolding tick waited
tick-waits row z r h = rw (r, lt-leb (lasts (queue_of z)) 1 (omega arith))

go_on : {p : Pulse} {b : Board} {n : ℕ} {z : Board} (row : List Pulse) → Running p b n z → suc n < p.duration → Running p b (suc n) (tick row z)
go_on {p} {b} {n} {z} row m h =
    let t : tick row z ≡ left_set ((queue_of z).left - 1) (passed 1 z) = tick-waits row z m.still-runs (rw m.left (omega arith)) in
    let q : queue_of (tick row z) ≡ leaving ((queue_of z).left - 1) (queue_of z) = rw t (queue-left 1 z) in
    record {
      first = ap (λ (x : Queue). x.first) q ∙ m.first;
      left = ap (λ (x : Queue). x.left) q ∙ rw m.left (omega arith);
      remembered = ap (λ (x : Queue). x.remembered) q ∙ m.remembered;
      still-runs = rw q m.still-runs;
      size = rw t (left-length ((queue_of z).left - 1) (passed 1 z) ∙ passed_length 1 z ∙ m.size);
    }

-- b is the board at the beginning of p, the first of those that stand; p stays where it is in the row
module _ (p : Pulse) (row : ℕ → List Pulse) (does : ℕ → Board → Board) (b : Board) (r : runs (queue_of b) ≡ true)
    (there : (i : ℕ) → pulse_at (row i) (place (queue_of b) 0) ≡ p) (beside : (i : ℕ) (z : Board) → runs (queue_of z) ≡ true → Beside z (does i z)) where
  holds : (n : ℕ) → n < max 1 p.duration → Running p b n (meddled row does n (begun p b))
  unfolding meddled
  holds zero h =
      let q : queue_of (begun p b) ≡ beginning p (states_of b) (queue_of b) = queue-begun p b (has-row b r) in
      record {
        first = ap (λ (x : Queue). x.first) q;
        left = ap (λ (x : Queue). x.left) q ∙ omega arith;
        remembered = ap (λ (x : Queue). x.remembered) q;
        still-runs = rw q r;
        size = begun-length p b;
      }
  holds (suc n) h =
      let m = holds n (omega arith) in
      go_on (row n) (go-beside m (beside n (meddled row does n (begun p b)) m.still-runs)) (omega arith)

  pub returns-whatever : (n : ℕ) → suc n ≡ max 1 p.duration
      → (meddled row does (suc n) (begun p b) ≡ turned p (pulse_at (row n) (place (queue_of b) 1)) (in_last row does n (begun p b)))
      × ((k : ℕ) → k < 16 → bit_of p.mask k ≡ true → (relay_at (k + 1) (ended p (in_last row does n (begun p b)))).closed ≡ (relay_at (k + 1) b).closed)
  unfolding meddled tick
  returns-whatever n e =
      let y : Board = meddled row does n (begun p b) in
      let z : Board = does n y in
      let m₀ = holds n (omega (arith, e)) in
      let m : Running p b n z = go-beside m₀ (beside n y m₀.still-runs) in
      let now-ends : ends_within 1 (queue_of z) ≡ true = rw m.still-runs (le-leb (lasts (queue_of z)) 1 (omega (arith, e, m.left))) in
      let size : length (passed 1 z) ≡ length b = passed_length 1 z ∙ m.size in (
        rw (now-ends, m.first, there n),
        λ k h t. ap (λ (x : Relay). x.closed) (returns p b k h (passed 1 z) (rw size (omega (arith, has-row b r))) (rw (queue-passed 1 z) m.remembered) t),
      )

-- a request meanwhile goes behind the others
pub request-beside : (p : Pulse) (z : Board) → runs (queue_of z) ≡ true → Beside z (pushed p z)
unfolding accepted
request-beside p z r =
    by_cases (is_full (queue_of z))
    (λ t. rw t (record { first = refl; left = refl; remembered = refl; still-runs = r; size = refl }))
    (λ f. let q : queue_of (accepted p z) ≡ joined p (queue_of z) = queue-waits p z (has-row z r) r in
    rw f
    (record {
      first = ap (λ (x : Queue). x.first) q;
      left = ap (λ (x : Queue). x.left) q;
      remembered = ap (λ (x : Queue). x.remembered) q;
      still-runs = rw q (lt-ltb 0 ((queue_of z).standing + 1) (omega arith));
      size = rw r (put-length (joined p (queue_of z)) z);
    }))

-- ---- a pulse alone

-- relay k + 1 is open, and p closes it; p stands where it is accepted
module _ (p : Pulse) (b : Board) (row : List Pulse) (k : ℕ) (h : queue_row < length b) (idle : runs (queue_of b) ≡ false) (j : k < 8)
    (there : pulse_at row (place (queue_of b) 0) ≡ p) (some : 1 ≤ p.duration) (m : bit_of p.mask k ≡ true) (s : bit_of p.states k ≡ true) where
  wide : k < 16
  wide = omega arith

  -- the board when it has been accepted, and its relay
  abbrev start : Board
  start = accepted p b

  put_first : Board
  put_first = put_queue (joined p (queue_of b)) b

  start_is : start ≡ begun p put_first
  unfolding accepted put_first
  start_is = rw idle

  start-size : clock_row ≤ length put_first
  unfolding put_first
  start-size = rw (put-length (joined p (queue_of b)) b) (omega arith)

  start-queue : queue_of start ≡ beginning p (states_of put_first) (joined p (queue_of b))
  unfolding put_first
  start-queue = queue-begins p b h idle

  start-relay : relay_at (k + 1) start ≡ held.switched true (relay_at (k + 1) b)
  unfolding put_first
  start-relay = rw start_is (begins p put_first k wide start-size m ∙ rw (s, relay-put (joined p (queue_of b)) k b wide))

  grows : (n : ℕ) → relay_at (k + 1) (passed n start) ≡ held.relay_used (grown (relay_at (k + 1) b).usage n) (held.switched true (relay_at (k + 1) b))
  unfolding relay_passed
  grows n =
      let size : clock_row ≤ length start = rw (start_is, begun-length p put_first) start-size in
      let words : 6 ≤ length (row_at (relay_place (k + 1)) start) = rw start_is (begins-row p put_first k wide start-size m) in
      time-relay n (k + 1) start (channel k j) (omega arith) words ∙ rw start-relay

  one-stands : (queue_of b).standing ≡ 0
  one-stands = omega (arith, ltb-false 0 (queue_of b).standing idle)

  within-its-ms : (n : ℕ) → n < p.duration
      → relay_at (k + 1) (elapsed row n start) ≡ held.relay_used (grown (relay_at (k + 1) b).usage n) (held.switched true (relay_at (k + 1) b))
  unfolding elapsed waited
  within-its-ms n l =
      let r : runs (queue_of start) ≡ true = rw start-queue (lt-ltb 0 ((queue_of b).standing + 1) (omega arith)) in
      let f : leb (lasts (queue_of start)) n ≡ false = rw start-queue (lt-leb (max 1 p.duration) n (omega arith)) in
      let e : ends_within n (queue_of start) ≡ false = rw (r, f) in
      rw (quiet row n start e, r) (relay-left ((queue_of start).left - n) (k + 1) (passed n start) ∙ grows n)

  -- the ms are over
  ends-alone : elapsed row p.duration start ≡ ended p (passed p.duration start)
  unfolding elapsed turned
  ends-alone =
      let d : ℕ = p.duration in
      let r : runs (queue_of start) ≡ true = rw start-queue (lt-ltb 0 ((queue_of b).standing + 1) (omega arith)) in
      let x : lasts (queue_of start) ≡ d = rw start-queue (omega arith) in
      let e : ends_within d (queue_of start) ≡ true = rw (r, x) (le-leb d d (omega arith)) in
      let first : place (queue_of start) 0 ≡ place (queue_of b) 0 = rw start-queue in
      let none : d - d ≡ 0 = omega arith in
      let gone : (queue_of (ended p (passed d start))).standing ≡ 0 =
      ap (λ (q : Queue). q.standing) (queue-ended p (passed d start) (rw (queue-passed d start) r))
      ∙ rw (queue-passed d start, start-queue) (omega (arith, one-stands)) in
      let still : runs (queue_of (ended p (passed d start))) ≡ false = rw gone in
      jump row d start e ∙ rw (x, none, first, there, still)

  after-its-ms : (relay_at (k + 1) b).closed ≡ false
      → relay_at (k + 1) (elapsed row p.duration start) ≡ held.relay_used (grown (relay_at (k + 1) b).usage p.duration) (relay_at (k + 1) b)
  unfolding put_first
  after-its-ms o =
      let d : ℕ = p.duration in
      let size : clock_row ≤ length (passed d start) = rw (passed_length d start, start_is, begun-length p put_first) start-size in
      let was : (queue_of (passed d start)).remembered ≡ states_of put_first = rw (queue-passed d start) (ap (λ (q : Queue). q.remembered) start-queue) in
      rw ends-alone
      (returns p put_first k wide (passed d start) size was m ∙ rw (relay-put (joined p (queue_of b)) k b wide, grows d, o))

-- the record is where the request put it
at_first : (p : Pulse) (b : Board) (row : List Pulse) → queue_row < length b → runs (queue_of b) ≡ false → 31 ≤ length row → Fits p
    → pulse_at (row_after b (accepted p b) row) (place (queue_of b) 0) ≡ p
at_first p b row h idle l f =
    let z : (queue_of b).standing ≡ 0 = omega (arith, ltb-false 0 (queue_of b).standing idle) in
    let e : row_after b (accepted p b) row ≡ set row (place (queue_of b) 0) p =
    stored p b h row f ∙ ap (λ (n : ℕ). set row (place (queue_of b) n) p) z in
    rw e (get_or-set_same row (place (queue_of b) 0) p (pulse_of 0 0 0) (omega (arith, place-low (queue_of b) 0)))

-- a request on a box where none runs, of relay k + 1 that is open
module _ (p : Pulse) (b : Board) (row : List Pulse) (k : ℕ) (h : queue_row < length b) (idle : runs (queue_of b) ≡ false) (l : 31 ≤ length row) (f : Fits p)
    (some : 1 ≤ p.duration) (j : k < 8) (m : bit_of p.mask k ≡ true) (s : bit_of p.states k ≡ true) (o : (relay_at (k + 1) b).closed ≡ false) where
  pub lasts-its-time : ((n : ℕ) → n < p.duration → relay_at (k + 1) (elapsed (row_after b (accepted p b) row) n (accepted p b))
      ≡ held.relay_used (grown (relay_at (k + 1) b).usage n) (held.switched true (relay_at (k + 1) b)))
      × (relay_at (k + 1) (elapsed (row_after b (accepted p b) row) p.duration (accepted p b))
      ≡ held.relay_used (grown (relay_at (k + 1) b).usage p.duration) (relay_at (k + 1) b))
  lasts-its-time =
      let there = at_first p b row h idle l f in (
        within-its-ms p b (row_after b (accepted p b) row) k h idle j there some m s,
        after-its-ms p b (row_after b (accepted p b) row) k h idle j there some m s o,
      )
