-- The answer numbers, each by its name: 01, Answer numbers, and what 02 adds to them.
use Rattle.std.specs.Prelude.{ℕ}

-- 01, Answer numbers, line 0: a piece is used up and nothing ended, or nothing is due
abbrev pub waiting : ℕ
waiting = 0

-- 01, Answer numbers, line 1: served, with a reply or without
abbrev pub served : ℕ
served = 1

-- 01, Answer numbers, line 2: a keep-alive
abbrev pub keep_alive : ℕ
keep_alive = 2

-- 01, Answer numbers, line 3: no such connection, or one that is shut
abbrev pub no_connection : ℕ
no_connection = 3

-- 01, Answer numbers, line 4: a reply buffer that is too short; 02, M-100, 5: or a row of pulses
abbrev pub short_buffer : ℕ
short_buffer = 4

-- 01, Answer numbers, line 5: a byte that begins nothing
abbrev pub stray : ℕ
stray = 5

-- 01, Answer numbers, line 6: a content that is too long to be judged
abbrev pub too_long : ℕ
too_long = 6

-- 01, Answer numbers, line 7: a checksum that does not hold
abbrev pub bad_checksum : ℕ
bad_checksum = 7

-- 01, Answer numbers, line 8: no content, or a type that the box does not offer
abbrev pub not_offered : ℕ
not_offered = 8

-- 01, Answer numbers, line 9: the sender's rank is too low
abbrev pub low_rank : ℕ
low_rank = 9

-- 01, Answer numbers, line 11: a number out of its range
abbrev pub out_of_range : ℕ
out_of_range = 11

-- 01, Answer numbers, line 12: an opening of what is open
abbrev pub already_open : ℕ
already_open = 12

-- 01, Answer numbers, line 13: a rank that there is not
abbrev pub bad_rank : ℕ
bad_rank = 13

-- 02, M-100, 7: a pulse is asked for, and 31 stand
abbrev pub queue_full : ℕ
queue_full = 14

-- 02, M-105, 1: what 01, Answer numbers, line 10, said by one number is said by three, and 10 itself is not given: the content ends too early,
-- but for what 22 says
abbrev pub ends_early : ℕ
ends_early = 20

-- 02, M-105, 1: bytes are left over
abbrev pub left_over : ℕ
left_over = 21

-- 02, M-105, 1: the content ends inside a list whose count is whole
abbrev pub list_cut : ℕ
list_cut = 22
