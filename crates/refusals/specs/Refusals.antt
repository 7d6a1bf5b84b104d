-- The number and the place of a refusal: 01, Answer numbers, and what 02 adds to them.
use Rattle.std.specs.Prelude.{ℕ, Result, Ok, Err}
use Rattle.numbers.specs.Numbers as numbers
use Rattle.refusals.specs.declared.Refusal.{Refusal}
use Rattle.refusals.specs.declared.Refusal.TheVariants.{NoConnection, ShortBuffer, TooLong, BadChecksum, NotOffered, LowRank, OutOfRange}
use Rattle.refusals.specs.declared.Refusal.TheVariants.{AlreadyOpen, BadRank, QueueFull, EndsEarly, LeftOver, ListCut}

-- 01, Answer numbers, lines 3, 4, 6 to 9 and 11 to 13, and 02, M-100, 7, and M-105, 1: each refusal has its number
abbrev pub number_of : Refusal → ℕ
number_of NoConnection = numbers.no_connection
number_of ShortBuffer = numbers.short_buffer
number_of TooLong = numbers.too_long
number_of BadChecksum = numbers.bad_checksum
number_of NotOffered = numbers.not_offered
number_of LowRank = numbers.low_rank
number_of OutOfRange = numbers.out_of_range
number_of AlreadyOpen = numbers.already_open
number_of BadRank = numbers.bad_rank
number_of QueueFull = numbers.queue_full
number_of (EndsEarly place) = numbers.ends_early
number_of (LeftOver place) = numbers.left_over
number_of (ListCut place) = numbers.list_cut

-- 02, M-105, 2: of a content that breaks its layout the place of the first byte that is missing or left over, else 0
abbrev pub place_of : Refusal → ℕ
place_of NoConnection = 0
place_of ShortBuffer = 0
place_of TooLong = 0
place_of BadChecksum = 0
place_of NotOffered = 0
place_of LowRank = 0
place_of OutOfRange = 0
place_of AlreadyOpen = 0
place_of BadRank = 0
place_of QueueFull = 0
place_of (EndsEarly place) = place
place_of (LeftOver place) = place
place_of (ListCut place) = place

-- 01, Answer numbers, line 1: what is served has 1, what is refused its refusal's number
abbrev pub answer_of : {A : Type 0} → Result A Refusal → ℕ
answer_of (Ok value) = numbers.served
answer_of (Err why) = number_of why

-- 02, M-105, 2: what is served has no place
abbrev pub place_in : {A : Type 0} → Result A Refusal → ℕ
place_in (Ok value) = 0
place_in (Err why) = place_of why
