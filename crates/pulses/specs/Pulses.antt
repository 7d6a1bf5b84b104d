-- Pulsed relays: a pulse's beginning and end, a request, and one ms. Document 02, M-100.
use Rattle.std.specs.Prelude.{Bool, cond, ◌&&◌, List, ℕ, zero, suc, ◌+◌, ◌-◌, ◌%◌, ◌^◌, max, leb, ltb}
use Rattle.laws.specs.Times.{times}
use Rattle.records.specs.declared.Queue.{Queue}
use Rattle.rows.specs.Places.{Board, relay_at, queue_of, put_queue, left_set}
use Rattle.tables.specs.Time.{passed}
use Rattle.changes.specs.Answers.{Change, moved_of}
use Rattle.blocks.specs.Blocks.{block_of}
use Rattle.marks.specs.Marks.{marked}
use Rattle.ring.specs.declared.Pulse.{Pulse}
use Rattle.ring.specs.Ring.{pulse_at, runs, place, popped, joined}

-- 02, M-100, 5: a row under 31 records is too short
abbrev pub short_row : ℕ → Bool
short_row records = ltb records 31

-- the states of the first n relays, a bit for each, the lowest relay 1
unfoldable pub states_below : ℕ → Board → ℕ
states_below zero b = 0
states_below (suc n) b = states_below n b + cond (relay_at (suc n) b).closed (2 ^ n) 0

abbrev pub states_of : Board → ℕ
states_of b = states_below 16 b

-- 02, M-100, 3: the masked relays take these states, at a beginning or an end: a change by itself, whose marks follow at once
unfoldable pub switched : ℕ → ℕ → Board → Board
switched mask states b = let m : Change = block_of mask states b in marked (moved_of m.outcome) m.board

-- 02, M-100, 3: at a beginning the relays' states are remembered, the ms left are the duration, and the masked take the pulse's states
abbrev pub beginning : Pulse → ℕ → Queue → Queue
beginning p was q =
    record {
      first = q.first;
      standing = q.standing;
      left = p.duration;
      remembered = was;
      mask = q.mask;
      states = q.states;
      duration = q.duration;
    }

unfoldable pub begun : Pulse → Board → Board
begun p b = switched p.mask p.states (put_queue (beginning p (states_of b) (queue_of b)) b)

-- 02, M-100, 3: at its end the masked relays return to the states that were remembered
unfoldable pub ended : Pulse → Board → Board
ended p b = switched p.mask ((queue_of b).remembered % 2 ^ 16) (put_queue (popped (queue_of b)) b)

-- 02, M-100, 2: the next, if one waits, begins when the first has ended
abbrev pub followed : Pulse → Board → Board
followed next b = cond (runs (queue_of b)) (begun next b) b

unfoldable pub turned : Pulse → Pulse → Board → Board
turned p next b = followed next (ended p b)

-- the ms up to the running pulse's end: one that has none left ends in the next ms
abbrev pub lasts : Queue → ℕ
lasts q = max 1 q.left

abbrev pub ends_within : ℕ → Queue → Bool
ends_within d q = runs q && leb (lasts q) d

-- d ms in which none ends: clock and usage grow, and the running pulse has so many ms less
unfoldable pub waited : ℕ → Board → Board
waited d b = cond (runs (queue_of b)) (left_set ((queue_of b).left - d) (passed d b)) (passed d b)

-- 02, M-100, 4: one ms: first it passes for clock and usage; then the running pulse may end, and the next begin
unfoldable pub tick : List Pulse → Board → Board
tick row b =
    let q : Queue = queue_of b in
    cond (ends_within 1 q) (turned (pulse_at row (place q 0)) (pulse_at row (place q 1)) (passed 1 b)) (waited 1 b)

-- 02, M-100, 4: d ms, one by one
unfoldable pub elapsed : List Pulse → ℕ → Board → Board
elapsed row d b = times d (tick row) b

-- 02, M-100, 2: a request is accepted: it begins in its own message where no other runs
unfoldable pub accepted : Pulse → Board → Board
accepted p b = let after : Board = put_queue (joined p (queue_of b)) b in cond (runs (queue_of b)) after (begun p after)
