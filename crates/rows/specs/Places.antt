-- Which row of the board stands for what: 01, What the box holds.
use Rattle.std.specs.Prelude.{Bool, cond, ◌&&◌, List, [], ◌∷◌, ℕ, zero, suc, ◌+◌, ◌-◌, leb, ltb, get_or, set}
use Rattle.records.specs.declared.Input.{Input}
use Rattle.records.specs.declared.Relay.{Relay}
use Rattle.records.specs.declared.Line.{Line}
use Rattle.records.specs.declared.Queue.{Queue}
use Rattle.records.specs.Records.{word, input_in, input_words, relay_in, relay_words, line_in, line_words, due_words, left_word, queue_in, queue_words, blank_input, blank_relay, shut_line}

-- the lent board: rows of words, all that the plain machine holds
abbrev pub Board : Type 0
Board = List (List ℕ)

-- the first row of each kind, and the number of rows: here alone, as in the code
abbrev pub first_input : ℕ
first_input = 0

abbrev pub first_relay : ℕ
first_relay = 8

-- relays 9 to 16
abbrev pub first_outer : ℕ
first_outer = 16

abbrev pub clock_row : ℕ
clock_row = 24

abbrev pub first_line : ℕ
first_line = 25

abbrev pub queue_row : ℕ
queue_row = 29

abbrev pub first_place : ℕ
first_place = 30

abbrev pub rows : ℕ
rows = 32

-- the row of input k, of relay k, of connection c; channels are counted from 1, connections from 0
abbrev pub input_place : ℕ → ℕ
input_place k = k - 1 + first_input

abbrev pub relay_place : ℕ → ℕ
relay_place k = k - 1 + first_relay

abbrev pub line_place : ℕ → ℕ
line_place c = c + first_line

-- 01, What the box holds, 1 and 2: inputs and relays have the numbers 1 to 8
abbrev pub is_channel : ℕ → Bool
is_channel k = leb 1 k && leb k 8

-- 02, M-102, 2: relays have the numbers 1 to 16
abbrev pub is_relay : ℕ → Bool
is_relay k = leb 1 k && leb k 16

-- 01, What the box holds, 4: connections have the numbers 0 to 3
abbrev pub is_connection : ℕ → Bool
is_connection c = ltb c 4

-- row n; one that is not there has no words
abbrev pub row_at : ℕ → Board → List ℕ
row_at n b = get_or b n []

-- input k; a number that is none's reads as blank
unfoldable pub input_at : ℕ → Board → Input
input_at k b = cond (is_channel k) (input_in (row_at (input_place k) b)) blank_input

-- relay k, likewise
unfoldable pub relay_at : ℕ → Board → Relay
relay_at k b = cond (is_relay k) (relay_in (row_at (relay_place k) b)) blank_relay

-- connection c; a number that is none's reads as shut
unfoldable pub line_at : ℕ → Board → Line
line_at c b = cond (is_connection c) (line_in (row_at (line_place c) b)) shut_line

-- the board with another input k, relay k, connection c in its row; a store to a number that is none's does nothing
unfoldable pub put_input : ℕ → Input → Board → Board
put_input k i b = cond (is_channel k) (set b (input_place k) (input_words i)) b

unfoldable pub put_relay : ℕ → Relay → Board → Board
put_relay k r b = cond (is_relay k) (set b (relay_place k) (relay_words (row_at (relay_place k) b) r)) b

unfoldable pub put_line : ℕ → Line → Board → Board
put_line c l b = cond (is_connection c) (set b (line_place c) (line_words l)) b

-- the board with one mark of connection c set, or the other, or both, likewise
unfoldable pub due_set : ℕ → Bool → Bool → Board → Board
due_set c due external b = cond (is_connection c) (set b (line_place c) (due_words due external (row_at (line_place c) b))) b

-- 01, What the box holds, 3: the clock is the first word of its row
abbrev pub clock_of : Board → ℕ
clock_of b = word 0 (row_at clock_row b)

-- 01, Messages, 7, 1: the clock becomes that number; no other word does
unfoldable pub clock_set : ℕ → Board → Board
clock_set v b = set b clock_row (set (row_at clock_row b) 0 v)

-- the queue of pulses, and the board with another
unfoldable pub queue_of : Board → Queue
queue_of b = queue_in (row_at queue_row b)

unfoldable pub put_queue : Queue → Board → Board
put_queue q b = set b queue_row (queue_words q)

-- 02, M-100, 4: only the ms left of the running pulse change; no other word does
unfoldable pub left_set : ℕ → Board → Board
left_set v b = set b queue_row (set (row_at queue_row b) left_word v)

-- n rows, those from row `from` on: row from + k becomes f k of it; the other rows stay
unfoldable pub on_rows : ℕ → ℕ → (ℕ → List ℕ → List ℕ) → Board → Board
on_rows from n f [] = []
on_rows zero zero f (row ∷ b) = row ∷ b
on_rows zero (suc n) f (row ∷ b) = f 0 row ∷ on_rows zero n (λ k. f (suc k)) b
on_rows (suc from) n f (row ∷ b) = row ∷ on_rows from n f b
