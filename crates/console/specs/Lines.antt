-- The lines of the input, and what each of them does: 01, Console.
use Rattle.std.specs.Prelude.{Option, None, Some, cond, List, [], ◌∷◌, ◌++◌, ℕ, eqb, replicate}
use Rattle.answers.specs.Calls.{refused}
use Rattle.steps.specs.Steps.{start}
use Rattle.rows.specs.Places.{Board}
use Rattle.powerup.specs.PowerUp.{blank_settings, powered_up}
use Rattle.halves.specs.Halves.{Halves, put_half}
use Rattle.pieces.specs.Effects.{Effect, still}
use Rattle.pieces.specs.Pieces.{bytes_call, halves_after, rooms_after}
use Rattle.board.specs.Calls.{connect_call}
use Rattle.hexadecimal.specs.Digits.{parsed, all_relays, relay_bits, shown_of}

-- a character at the front of the first line
unfoldable pub on_first : ℕ → List (List ℕ) → List (List ℕ)
on_first b [] = (b ∷ []) ∷ []
on_first b (l ∷ ls) = (b ∷ l) ∷ ls

-- 01, Console, 1: the lines of the input: each ends at a newline, which is not of it; the last may lack one, and then counts if it is not empty
unfoldable pub lines_of : List ℕ → List (List ℕ)
lines_of [] = []
lines_of (b ∷ bs) = cond (eqb b 10) ([] ∷ lines_of bs) (on_first b (lines_of bs))

-- 01, Console, 1: connection 0 is open, at rank 2, and not strict (02, M-103, 2); nothing is set at power-up
unfoldable pub started : Board
started = (connect_call 0 2 0 (powered_up (record { inputs = replicate 8 blank_settings; relays = replicate 8 0 }))).did.board

-- the words that were lent, with nothing half read on connection 0: an opening is fresh (01, Events, 3)
unfoldable pub started_halves : Halves → Halves
started_halves hs = put_half 0 start hs

-- 01, Console, 3 and 4: a line is offered in one call, and nothing of it again; one that does not feed shows FF, 255.
-- The reply buffer has 4,096 bytes; a row of 31 pulses is told, and none is kept, for no time passes here and none of its records is read.
unfoldable pub offered : Option (List ℕ) → Board → Halves → List ℕ → Effect
offered None b hs rooms = still (refused 255 b)
offered (Some piece) b hs rooms = bytes_call 0 piece 4096 31 b hs rooms

unfoldable pub halves_offered : Option (List ℕ) → Board → Halves → List ℕ → Halves
halves_offered None b hs rooms = hs
halves_offered (Some piece) b hs rooms = halves_after 0 piece 4096 31 b hs rooms

unfoldable pub rooms_offered : Option (List ℕ) → Board → Halves → List ℕ → List ℕ
rooms_offered None b hs rooms = rooms
rooms_offered (Some piece) b hs rooms = rooms_after 0 piece 4096 31 b hs rooms

-- 01, Console, 3: what a line does, and the halves and rooms after it, in which what is half read waits
unfoldable pub line_call : List ℕ → Board → Halves → List ℕ → Effect
line_call line b hs rooms = offered (parsed line) b hs rooms

unfoldable pub line_halves : List ℕ → Board → Halves → List ℕ → Halves
line_halves line b hs rooms = halves_offered (parsed line) b hs rooms

unfoldable pub line_rooms : List ℕ → Board → Halves → List ℕ → List ℕ
line_rooms line b hs rooms = rooms_offered (parsed line) b hs rooms

-- 01, Console, 2: what is printed of it
unfoldable pub shown : Effect → List ℕ
shown e = shown_of e.did.answer (relay_bits (all_relays e.did.board))

-- 01, Console, 2 and 5: all that is printed: line by line, and nothing else
unfoldable pub printed : Board → Halves → List ℕ → List (List ℕ) → List ℕ
printed b hs rooms [] = []
printed b hs rooms (l ∷ ls) =
    shown (line_call l b hs rooms) ++ printed (line_call l b hs rooms).did.board (line_halves l b hs rooms) (line_rooms l b hs rooms) ls
