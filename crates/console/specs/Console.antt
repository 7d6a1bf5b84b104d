-- The console byte by byte: what the code holds between reads, and what a byte of the input does to it and prints.
-- That this prints what Lines says of the whole input, however the reads cut it, is the law `prints-every-line` in proofs/Law.
use Rattle.std.specs.Prelude.{◌≡◌, Bool, cond, List, [], ◌∷◌, ◌++◌, ℕ, ◌+◌, ◌-◌, eqb, ltb, set, take}
use Rattle.laws.specs.Put.{put}
use Rattle.rows.specs.Places.{Board}
use Rattle.halves.specs.Halves.{Halves}
use Rattle.pieces.specs.Effects.{Effect}
use Rattle.console.specs.declared.Console.{Console}
use Rattle.console.specs.Lines.{line_call, line_halves, line_rooms, shown}

-- the board, the half-read messages, the rooms, the store of the line that has not ended with how much of it is used, and the reply buffer
pub record Held : Type 0 where
  pub board : Board
  pub halves : Halves
  pub rooms : List ℕ
  pub line : List ℕ
  pub used : ℕ
  pub reply : List ℕ

abbrev pub held : Board → Halves → List ℕ → List ℕ → ℕ → List ℕ → Held
held b hs rooms line used reply = record { board = b; halves = hs; rooms = rooms; line = line; used = used; reply = reply }

abbrev pub held_of : Console → Held
held_of c = held c.board c.halves c.rooms c.line c.used c.reply

-- the characters of the line so far
abbrev pub so_far : Held → List ℕ
so_far h = take h.used h.line

abbrev pub line_held : Held → Effect
line_held h = line_call (so_far h) h.board h.halves h.rooms

-- the line has ended: it does what a line does, and the next begins
unfoldable pub ended : Held → Held
ended h =
    held (line_held h).did.board (line_halves (so_far h) h.board h.halves h.rooms) (line_rooms (so_far h) h.board h.halves h.rooms)
    h.line 0 (put 0 (line_held h).did.reply h.reply)

-- 01, Console, 4: a character is kept while there is room for 2,059, so that a line that is too long is known; no more of it is kept
unfoldable pub kept : ℕ → Held → Held
kept b h = cond (ltb h.used 2059) (held h.board h.halves h.rooms (set h.line h.used b) (h.used + 1) h.reply) h

-- one byte of the input, and what it prints
unfoldable pub step : Held → ℕ → Held
step h b = cond (eqb b 10) (ended h) (kept b h)

unfoldable pub says : Held → ℕ → List ℕ
says h b = cond (eqb b 10) (shown (line_held h)) []

-- a piece of the input, and what it prints
unfoldable pub run : Held → List ℕ → Held
run h [] = h
run h (b ∷ bs) = run (step h b) bs

unfoldable pub said : Held → List ℕ → List ℕ
said h [] = []
said h (b ∷ bs) = says h b ++ said (step h b) bs

-- the end of the input: a last line without a newline counts if it is not empty
unfoldable pub at_end : Held → Held
at_end h = cond (eqb h.used 0) h (ended h)

unfoldable pub said_at_end : Held → List ℕ
said_at_end h = cond (eqb h.used 0) [] (shown (line_held h))

-- all pieces of the input, and all that is printed
unfoldable pub said_of : Held → List (List ℕ) → List ℕ
said_of h [] = said_at_end h
said_of h (p ∷ ps) = said h p ++ said_of (run h p) ps

-- 01, the console program, 1: standard input is read, to its end. A proved loop has to end too, and nothing says that the input does: this many
-- reads are made at most. At a thousand million a second they last for over 500 years, so that no run uses them up.
abbrev pub every_read : ℕ
every_read = 18446744073709551615

-- the reads that are left behind one that brought so many bytes: none where it brought none, for that is the end of the input, or where its
-- answers could not be written
unfoldable pub reads_left : ℕ → ℕ → Bool → ℕ
reads_left left brought written = cond (eqb brought 0) 0 (cond written (left - 1) 0)

-- what any read leaves of them: one fewer, or none
unfoldable pub Spent : ℕ → ℕ → Type 0
Spent left left' = left' ≡ cond (eqb left' 0) 0 (left - 1)
