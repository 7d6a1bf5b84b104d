-- One byte of a message: what the code promises, for every half-read message, nonsense included: 01, Frame, 1, 7 and 8.
use Rattle.numbers.specs.Numbers as numbers
use Rattle.std.specs.Prelude.{cond, List, ℕ, ◌+◌, ◌*◌, ◌/◌, ◌%◌, eqb, ltb, length}
use Rattle.std.proofs.Math.Option.{Option, none, some}
use Rattle.steps.specs.declared.Half.{Half}
use Rattle.steps.specs.declared.Outcome.{Outcome}
use Rattle.steps.specs.declared.Outcome.TheVariants.{Waiting, KeepAlive, Stray, Message}
use Rattle.steps.specs.Cut.{two}

abbrev pub half : ℕ → ℕ → ℕ → Half
half g l s = record { got = g; len = l; sum = s }

-- nothing read
abbrev pub start : Half
start = half 0 0 0

-- 01, Frame, 1: byte number `got` of a frame whose header is in: with it the frame, of 5 + len bytes, waits on or has ended
unfoldable pub after_of : ℕ → ℕ → ℕ → Outcome
after_of got len sum = cond (ltb (got + 1) (5 + len)) (Waiting (half (got + 1) len sum)) (Message len sum)

-- 01, Frame, 7: a message's first byte
unfoldable pub first_of : ℕ → Outcome
first_of b = cond (eqb b 1) (Waiting (half 1 0 0)) (cond (eqb b 6) KeepAlive Stray)

-- 01, Frame, 1 and 8: one byte more: only the first means something by itself; bytes 1 and 2 are the length, 3 and 4 the checksum
unfoldable pub step_of : Half → ℕ → Outcome
step_of h b =
    cond (eqb h.got 0) (first_of b)
    (cond (eqb h.got 1) (Waiting (half 2 (b % 256 * 256) 0))
    (cond (eqb h.got 2) (Waiting (half 3 (h.len / 256 * 256 + b % 256) 0))
    (cond (eqb h.got 3) (Waiting (half 4 h.len (b % 256 * 256)))
    (cond (eqb h.got 4) (after_of 4 h.len (h.sum / 256 * 256 + b % 256))
    (after_of h.got h.len h.sum)))))

-- 01, Answer numbers, lines 0, 2 and 5: what bytes came to, by its number; a message that has ended has none of its own: it is judged
abbrev pub number_of : Outcome → Option ℕ
number_of (Waiting h) = some numbers.waiting
number_of KeepAlive = some numbers.keep_alive
number_of Stray = some numbers.stray
number_of (Message len sum) = none

-- 01, Answer numbers, Left: how far the next message has been read
abbrev pub half_after : Outcome → Half
half_after (Waiting h) = h
half_after KeepAlive = start
half_after Stray = start
half_after (Message len sum) = start

-- how far the message is read whose bytes so far are r
abbrev pub half_of : List ℕ → Half
half_of r = half (length r) (two r 1) (two r 3)
