-- Hexadecimal lines and the digits of an answer: 01, Console, 1 to 4; 02, M-102, 10.
use Rattle.std.specs.Prelude.{Option, None, Some, Bool, true, cond, ◌&&◌, ◌||◌, List, [], ◌∷◌, ◌++◌, map, ℕ, ◌+◌, ◌-◌, ◌*◌, ◌/◌, ◌%◌, eqb, leb, ltb, length}
use Rattle.records.specs.declared.Relay.{Relay}
use Rattle.rows.specs.Places.{Board, relay_at}
use Rattle.modules.specs.Modules.{second_deck}
use Rattle.writers.specs.Writers.{all_channels}

-- 01, Console, 1: the characters 0 to 9, and A to F
abbrev pub is_decimal : ℕ → Bool
is_decimal c = leb 48 c && leb c 57

abbrev pub is_letter : ℕ → Bool
is_letter c = leb 65 c && leb c 70

unfoldable pub is_digit : ℕ → Bool
is_digit c = is_decimal c || is_letter c

-- what such a character counts; 0 for another, which no line that feeds has
unfoldable pub digit_of : ℕ → ℕ
digit_of c = cond (is_decimal c) (c - 48) (cond (is_letter c) (c - 55) 0)

-- every character is such a digit
unfoldable pub all_digits : List ℕ → Bool
all_digits [] = true
all_digits (c ∷ cs) = is_digit c && all_digits cs

-- 01, Console, 4: which lines feed: some characters, an even number of them, 2,058 at most, all digits
unfoldable pub feeds : List ℕ → Bool
feeds line = ltb 0 (length line) && (eqb (length line % 2) 0 && (leb (length line) 2058 && all_digits line))

-- 01, Console, 1: a byte for every two digits, the high one first
unfoldable pub pairs : List ℕ → List ℕ
pairs [] = []
pairs (a ∷ []) = []
pairs (a ∷ (b ∷ cs)) = (digit_of a * 16 + digit_of b) ∷ pairs cs

-- 01, Console, 3: the piece that a line is, where it feeds
unfoldable pub parsed : List ℕ → Option (List ℕ)
parsed line = cond (feeds line) (Some (pairs line)) None

-- the bytes of such a piece; none where the line feeds nothing
abbrev pub bytes_in : Option (List ℕ) → List ℕ
bytes_in None = []
bytes_in (Some bs) = bs

-- the character of a digit below 16
abbrev pub glyph : ℕ → ℕ
glyph d = cond (ltb d 10) (48 + d) (55 + d)

-- a relay's bit: set where it is closed
abbrev pub closed_bit : Relay → ℕ
closed_bit r = cond r.closed 1 0

-- 02, M-102, 10: all relays in their order, those of the second deck too
unfoldable pub all_relays : Board → List Relay
all_relays b = map (λ k. relay_at k b) (all_channels ++ second_deck)

-- the relays as a number, relay 1 the lowest bit
unfoldable pub relay_bits : List Relay → ℕ
relay_bits [] = 0
relay_bits (r ∷ rs) = closed_bit r + 2 * relay_bits rs

-- the digit of a number that has this weight: 1, 16, 256 or 4,096
abbrev pub weighed : ℕ → ℕ → ℕ
weighed number weight = glyph (number / weight % 16)

-- 01, Console, 2, and 02, M-102, 10: two digits of the answer, four of the relays, and a newline
unfoldable pub shown_of : ℕ → ℕ → List ℕ
shown_of answer relays =
    weighed answer 16 ∷ weighed answer 1 ∷ weighed relays 4096 ∷ weighed relays 256 ∷ weighed relays 16 ∷ weighed relays 1 ∷ 10 ∷ []
