-- The judgement of each type of message, over its content's length n and the numbers in it: 01, Messages, and Answer numbers, lines 9 to 11;
-- 02, M-105, 4: in the place of line 10 what its layout comes to, 20 to 22.
use Rattle.std.specs.Prelude.{cond, ◌&&◌, List, [], ◌∷◌, ℕ, ◌+◌, ◌*◌, eqb, leb, ltb, Result, Ok, Err}
use Rattle.layouts.specs.Layouts.{Part, fields, optional, entries, as_far, layout_in}
use Rattle.refusals.specs.declared.Refusal.{Refusal}
use Rattle.refusals.specs.declared.Refusal.TheVariants.{LowRank, OutOfRange}
use Rattle.orders.specs.declared.Order.{Order}
use Rattle.orders.specs.declared.Order.TheVariants.{Clock, Monitor, Usage, MonitorOff, MonitorOn, SetClock, Close, Open, Toggle, ClearCount, ClearInputUsage, ClearRelayUsage, Block, PulseRelay, PulseBlock, Read, Write, Enumerate}

-- 01, Answer numbers, line 9: the rank is under what is needed
abbrev pub of_rank : {A : Type 0} → ℕ → ℕ → Result A Refusal → Result A Refusal
of_rank need rank order = cond (ltb rank need) (Err LowRank) order

-- 02, M-105, 1 and 2: the refusal and the place with which a layout breaks, else what it orders
unfoldable pub of_reach : {A : Type 0} → Result ℕ Refusal → Result A Refusal → Result A Refusal
of_reach (Ok at) order = order
of_reach (Err refusal) order = Err refusal

-- 02, M-105, 4: a content is its layout from end to end
abbrev pub of_layout : {A : Type 0} → ℕ → List Part → Result A Refusal → Result A Refusal
of_layout n layout order = of_reach (layout_in n layout) order

-- 01, Answer numbers, 2: a content holds so many bytes, whatever follows them
abbrev pub holding : {A : Type 0} → ℕ → ℕ → Result A Refusal → Result A Refusal
holding n size order = of_reach (as_far n (fields size ∷ [])) order

-- 01, Answer numbers, line 11: a number is not in `low` to `high`
unfoldable pub in_range : {A : Type 0} → ℕ → ℕ → ℕ → Result A Refusal → Result A Refusal
in_range low high number order = cond (leb low number && leb number high) order (Err OutOfRange)

-- an order whose layout is fields of so many bytes in all
unfoldable pub if_sized : {A : Type 0} → ℕ → ℕ → Result A Refusal → Result A Refusal
if_sized n size order = of_layout n (fields size ∷ []) order

-- 02, M-105, 1: an order whose layout is a type (1), a count (2) and a list, whose entries have so many bytes in all
unfoldable pub if_listed : {A : Type 0} → ℕ → ℕ → Result A Refusal → Result A Refusal
if_listed n size order = of_layout n (fields (1 + 2) ∷ entries size ∷ []) order

-- 01, Messages, 5, 1: a type (1), a request (2) and, if it is there, an interval (4)
unfoldable pub sized_request : {A : Type 0} → ℕ → Result A Refusal → Result A Refusal
sized_request n order = of_layout n (fields (1 + 2) ∷ optional 4 ∷ []) order

-- 01, Messages, 5, 2 to 6: requests 0, 1, 2, 4 and 5, else 11
unfoldable pub request_known : ℕ → ℕ → Result Order Refusal
request_known n request =
    cond (eqb request 0) (sized_request n (Ok Clock))
    (cond (eqb request 1) (sized_request n (Ok Monitor))
    (cond (eqb request 2) (sized_request n (Ok Usage))
    (cond (eqb request 4) (sized_request n (Ok MonitorOff))
    (cond (eqb request 5) (sized_request n (Ok MonitorOn))
    (Err OutOfRange)))))

-- 01, Answer numbers, 2: a request that is there comes before the length
unfoldable pub judge_request : ℕ → ℕ → Result Order Refusal
judge_request n request = holding n (1 + 2) (request_known n request)

-- 01, Messages, 7, 1: a type (1) and a time (8), whatever its number is
unfoldable pub judge_set_clock : ℕ → ℕ → Result Order Refusal
judge_set_clock n time = if_sized n (1 + 8) (Ok (SetClock time))

-- 01, Messages, 10, 2: an order with a channel in it, from 1 up to `high`
unfoldable pub on_channel : {A : Type 0} → ℕ → ℕ → ℕ → ℕ → Result A Refusal → Result A Refusal
on_channel n size high channel order = if_sized n size (in_range 1 high channel order)

-- 02, M-100, 7: 11 for a duration of 0
unfoldable pub if_lasting : {A : Type 0} → ℕ → Result A Refusal → Result A Refusal
if_lasting duration order = cond (eqb duration 0) (Err OutOfRange) order

-- 02, M-100, 1, and M-102, 2: action 6 has a channel, up to 16, and a duration, action 7 a mask, states and a duration, each 8 bytes in all
-- 01, Messages, 10, 4: else 11
unfoldable pub judge_pulse : ℕ → ℕ → ℕ → ℕ → ℕ → ℕ → Result Order Refusal
judge_pulse n action channel mask states duration =
    cond (eqb action 6) (on_channel n 8 16 channel (if_lasting duration (Ok (PulseRelay channel duration))))
    (cond (eqb action 7) (if_sized n 8 (if_lasting duration (Ok (PulseBlock mask states duration))))
    (Err OutOfRange))

-- 01, Messages, 10, 1 to 3: actions 1, 2, 3, 5, 8 and 9 have a channel, action 10 a mask and a state, each 4 bytes in all
-- 02, M-102, 2 and 3: the channels of 1, 2 and 3 go up to 16, those of 5, 8 and 9 up to 8
unfoldable pub action_known : ℕ → ℕ → ℕ → ℕ → ℕ → ℕ → Result Order Refusal
action_known n action channel mask state duration =
    cond (eqb action 1) (on_channel n 4 16 channel (Ok (Close channel)))
    (cond (eqb action 2) (on_channel n 4 16 channel (Ok (Open channel)))
    (cond (eqb action 3) (on_channel n 4 16 channel (Ok (Toggle channel)))
    (cond (eqb action 5) (on_channel n 4 8 channel (Ok (ClearCount channel)))
    (cond (eqb action 8) (on_channel n 4 8 channel (Ok (ClearInputUsage channel)))
    (cond (eqb action 9) (on_channel n 4 8 channel (Ok (ClearRelayUsage channel)))
    (cond (eqb action 10) (if_sized n 4 (Ok (Block mask state)))
    (judge_pulse n action channel mask state duration)))))))

-- 01, Answer numbers, 2: an action that is there comes before the length
unfoldable pub judge_command : ℕ → ℕ → ℕ → ℕ → ℕ → ℕ → Result Order Refusal
judge_command n action channel mask state duration = holding n (1 + 1) (action_known n action channel mask state duration)

-- 01, Messages, 21, 1: a count (2) and so many IDs of 8 bytes
unfoldable pub judge_read : ℕ → ℕ → Result Order Refusal
judge_read n count = if_listed n (8 * count) (Ok (Read count))

-- 01, Messages, 23, 1 and 2: a count (2) and so many entries, which have these bytes in all
unfoldable pub judge_write : ℕ → ℕ → ℕ → Result Order Refusal
judge_write n count size = if_listed n size (Ok (Write count))

-- 01, Messages, 26, 1: a type (1) and flags (1), 1 to 3
unfoldable pub judge_enumerate : ℕ → ℕ → Result Order Refusal
judge_enumerate n flags = if_sized n (1 + 1) (in_range 1 3 flags (Ok (Enumerate flags)))
