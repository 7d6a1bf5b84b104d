-- The versions of the box that were lost, and two more that lose something, as machines over the same calls. That none of them meets demand 3,
-- or the law of words, is in proofs/Lost.
use Rattle.std.specs.Prelude.{◌≡◌, cond, List, [], ◌∷◌, map, ℕ, ◌+◌, ◌*◌, ◌%◌, ◌^◌, ◌<◌, eqb, ltb, length}
use Rattle.halves.specs.Halves.{half_at, put_half}
use Rattle.halves.specs.Rooms.{room_at, put_room}
use Rattle.demand.specs.Demand.{waits, Call, bytes, other, Answer, answer, Machine, Trace, refused, did}
use Rattle.register.specs.Box.{connect, close, served, Held, held, tables_of, box_call, level, Reply, Tables, refusal_of}
use Rattle.std.proofs.Math.Option.{Option, none, some}
use Rattle.words.specs.Words.{bytes_of}
use Rattle.steps.specs.Cut.{seen}
use Rattle.records.specs.Records.{input_in, input_words}
use Rattle.rows.specs.Places.{Board, first_input, clock_of, on_rows}
use Rattle.records.specs.Held.{counted}
use Rattle.cases.specs.Empty.{shown}

-- the box with another call
abbrev pub box_with : (Held → Call served → Held × Answer served) → Machine served
box_with call = record { State = Held; tables = tables_of; call = call }

-- the answer numbers of a run
abbrev pub numbers : Trace served → List ℕ
numbers xs = map (λ (a : Call served × Answer served). (shown a.1.said).number) xs

-- ---- lost: each network read taken as one message

-- a piece that is not refused is taken whole, and served as one message, whatever it holds
abbrev pub read_as_one : Option Reply → Tables → ℕ → List ℕ → Tables × Answer served
read_as_one (some a) t c piece = (t, answer served 0 (refused a))
read_as_one none t c piece = ((served.serve t c (seen 1024 piece)).0, answer served (length piece) (did (served.serve t c (seen 1024 piece)).1))

abbrev pub as_one_call : Tables → Call served → Tables × Answer served
as_one_call t (bytes c room piece) = read_as_one (refusal_of t c room) t c piece
as_one_call t (other e) = ((served.happen t e).0, answer served 0 (did (served.happen t e).1))

abbrev pub as_one : Machine served
as_one = record { State = Tables; tables = λ t. t; call = as_one_call }

-- reads that tell it from the box: the first two bytes of a frame, and three keep-alives
abbrev pub half : List ℕ
half = 0x01 ∷ 0x00 ∷ []

abbrev pub three : List ℕ
three = 0x06 ∷ 0x06 ∷ 0x06 ∷ []

-- ---- lost: bytes widened with their sign (01, Mistakes, 2)

-- from 0x80 on a byte is widened to 32 bits as a negative number: 128 is read as 4294967168
abbrev pub widened : ℕ → ℕ
widened b = cond (ltb b 0x80) b (0xFFFFFF00 + b)

-- the number in 32 bits that bytes so widened go on to stand for, behind those that stand for acc
abbrev pub widened_from : ℕ → List ℕ → ℕ
widened_from acc [] = acc
widened_from acc (b ∷ bs) = widened_from ((acc * 256 + widened b) % 2 ^ 32) bs

abbrev pub widened_of : List ℕ → ℕ
widened_of bs = widened_from 0 bs

-- the law of words, of any reading of bytes: a number that was stored is read back
abbrev pub ReadsBack : (List ℕ → ℕ) → Type 0
ReadsBack read = (k v : ℕ) → v < 256 ^ k → read (bytes_of k v) ≡ v

-- ---- lost: counts dropped at a clock setting

-- every input's count is 0
abbrev pub uncounted : Board → Board
uncounted b = on_rows first_input 8 (λ _ row. input_words (counted 0 (input_in row))) b

-- where a message set the clock to another time, the counts are dropped
abbrev pub uncounted_at : ℕ → Board → Board
uncounted_at clock b = cond (eqb (clock_of b) clock) b (uncounted b)

abbrev pub uncounting_call : Held → Call served → Held × Answer served
uncounting_call x (bytes c room piece) =
    let y : Held = (box_call x (bytes c room piece)).0 in
    (held (uncounted_at (clock_of x.board) y.board) y.halves y.rooms y.row, (box_call x (bytes c room piece)).1)
uncounting_call x (other e) = box_call x (other e)

-- calls that tell it from the box: a fish is counted, then the clock is set to 1
abbrev pub clocking : List (Call served)
clocking =
    other (connect 0 2 0) ∷ other (level 1 1) ∷
    bytes 0 4096 (0x01 ∷ 0x00 ∷ 0x09 ∷ 0xFF ∷ 0xFF ∷ 0x07 ∷ 0 ∷ 0 ∷ 0 ∷ 0 ∷ 0 ∷ 0 ∷ 0 ∷ 1 ∷ []) ∷ []

-- ---- lost: one half-read store for all (01, Mistakes, 1)

-- connection d has what connection c has read
abbrev pub lending : ℕ → ℕ → Held → Held
lending c d x = held x.board (put_half d (half_at c x.halves) x.halves) (put_room d (room_at c x.rooms) x.rooms) x.row

-- every piece is read on from connection 0's store, and left there
abbrev pub shared_call : Held → Call served → Held × Answer served
shared_call x (bytes c room piece) = (lending c 0 (box_call (lending 0 c x) (bytes c room piece)).0, (box_call (lending 0 c x) (bytes c room piece)).1)
shared_call x (other e) = box_call x (other e)

-- calls that tell it from the box: a frame begins on connection 0, then a keep-alive comes on connection 1
abbrev pub crossing : List (Call served)
crossing = other (connect 0 2 0) ∷ other (connect 1 2 0) ∷ bytes 0 4096 half ∷ bytes 1 4096 (0x06 ∷ []) ∷ []

-- ---- not among the lost: the sender's answer dropped

-- a message is served, and nothing is said of it
abbrev pub muted_call : Held → Call served → Held × Answer served
muted_call x (bytes c room piece) = ((box_call x (bytes c room piece)).0, answer served (box_call x (bytes c room piece)).1.taken waits)
muted_call x (other e) = box_call x (other e)

-- ---- not among the lost: a message half read at a closing is kept

-- it is read on after the next opening: no event touches the half-read messages
abbrev pub keeping_call : Held → Call served → Held × Answer served
keeping_call x (bytes c room piece) = box_call x (bytes c room piece)
keeping_call x (other e) = (held (box_call x (other e)).0.board x.halves x.rooms x.row, (box_call x (other e)).1)

-- calls that tell it from the box: a frame begins, its connection is closed and opened again, then a keep-alive comes
abbrev pub reopening : List (Call served)
reopening = other (connect 0 2 0) ∷ bytes 0 4096 half ∷ other (close 0) ∷ other (connect 0 2 0) ∷ bytes 0 4096 (0x06 ∷ []) ∷ []
