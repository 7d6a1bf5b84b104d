-- Pulses asked for, and their queue as a ring. Document 02, M-100.
use Rattle.std.specs.Prelude.{Bool, cond, List, Option, Some, None, ℕ, ◌+◌, ◌-◌, ◌%◌, ◌^◌, min, leb, ltb, get_or, set}
use Rattle.records.specs.declared.Queue.{Queue}
use Rattle.rows.specs.Places.{Board, is_relay, queue_of}
use Rattle.ring.specs.declared.Pulse.{Pulse}

-- 02, M-100, 1: which relays a pulse takes, the states it gives them, and for how many ms
abbrev pub pulse_of : ℕ → ℕ → ℕ → Pulse
pulse_of mask states ms = record { mask = mask; states = states; duration = ms }

-- 02, M-100, 1, and M-102, 2: action 6: the pulse of one relay, 1 to 16: mask and states have its bit, the lowest relay 1
unfoldable pub relay_pulse : ℕ → ℕ → Pulse
relay_pulse k ms = let bit : ℕ = cond (is_relay k) (2 ^ (k - 1)) 0 in pulse_of bit bit ms

-- 02, M-100, 5: record i of the lent row; one that is not there reads as no pulse
abbrev pub pulse_at : List Pulse → ℕ → Pulse
pulse_at row i = get_or row i (pulse_of 0 0 0)

-- 02, M-100, 2: how many stand, the running one among them; a number above 31 reads as 31
abbrev pub standing : Queue → ℕ
standing q = min q.standing 31

abbrev pub is_full : Queue → Bool
is_full q = leb 31 q.standing

abbrev pub runs : Queue → Bool
runs q = ltb 0 q.standing

-- 02, M-100, 2: so that a freed place serves anew the 31 places are a ring: this is the k-th behind the first
abbrev pub place : Queue → ℕ → ℕ
place q k = (q.first % 31 + k % 31) % 31

-- 02, M-100, 2: the first leaves the queue, and its place is free
abbrev pub popped : Queue → Queue
popped q =
    record {
      first = place q 1;
      standing = standing q - 1;
      left = 0;
      remembered = 0;
      mask = q.mask;
      states = q.states;
      duration = q.duration;
    }

-- 02, M-100, 2 and 5: a request goes behind the last, and is kept in the board until it stands in the row
abbrev pub joined : Pulse → Queue → Queue
joined p q =
    record {
      first = q.first;
      standing = q.standing + 1;
      left = q.left;
      remembered = q.remembered;
      mask = p.mask;
      states = p.states;
      duration = p.duration;
    }

-- the request that was accepted last
unfoldable pub newest : Board → Pulse
newest b = pulse_of ((queue_of b).mask % 2 ^ 16) ((queue_of b).states % 2 ^ 16) ((queue_of b).duration % 2 ^ 32)

-- 02, M-100, 5: its place in the row, where there is one more behind a message than before it; else none
unfoldable pub seat_of : Queue → Queue → Option ℕ
seat_of before after = cond (ltb before.standing after.standing) (Some (place after (after.standing - 1))) None

-- 02, M-100, 5: the row after a message: the request that it added to the queue, if one, stands behind the last; every other record stays
unfoldable pub row_after : Board → Board → List Pulse → List Pulse
row_after b b' row =
    let after : Queue = queue_of b' in
    cond (ltb (queue_of b).standing after.standing) (set row (place after (after.standing - 1)) (newest b')) row
