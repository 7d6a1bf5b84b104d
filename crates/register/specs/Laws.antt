-- What the named laws of demand 2 say.
use Rattle.numbers.specs.Numbers as numbers
use Rattle.std.specs.Prelude.{◌≡◌, Bool, false, ◌||◌, List, [], ℕ, ◌≤◌, ◌<◌, eqb, get_or}
use Rattle.std.proofs.Math.Option.{Option, none, some}
use Rattle.laws.specs.Put.{put}
use Rattle.words.specs.Words.{number_at}
use Rattle.records.specs.Records.{word}
use Rattle.steps.specs.Cut.{Got, keep_alive, stray, too_long, frame}
use Rattle.rows.specs.Places.{Board, clock_row, row_at, input_at, line_at}
use Rattle.halves.specs.Halves.{half_at}
use Rattle.halves.specs.Rooms.{room_at}
use Rattle.answers.specs.Calls.{Did}
use Rattle.pieces.specs.Effects.{Effect}
use Rattle.demand.specs.Demand.{Call, bytes, other}
use Rattle.register.specs.Box.{on, whose, Held, served}
use Rattle.marks.specs.Marks.{with_marks}

-- 01, Messages, 7, 1: a content of this type, whole or not
abbrev pub TypeSeven : List ℕ → Type 0
TypeSeven content = number_at content 0 1 ≡ 7

-- 01, Mistakes, 3: from the one board to the other the clock may have changed, and nothing else: no other row, and no other word of the clock's own
pub record ButClock (before after : Board) : Type 0 where
  pub rows : (n : ℕ) → eqb n clock_row ≡ false → row_at n after ≡ row_at n before
  pub words : (j : ℕ) → eqb j 0 ≡ false → word j (row_at clock_row after) ≡ word j (row_at clock_row before)

-- 01, Answer numbers, 4 and 6, and 02, M-100, 7: what a refusal leaves: every word of the board, no reply, and so every byte of a reply buffer
pub record Untouched (before : Board) (e : Effect) : Type 0 where
  pub board : e.did.board ≡ before
  pub silent : e.did.reply ≡ []
  pub buffer : (o : List ℕ) → put 0 e.did.reply o ≡ o

-- 02, M-105, 1: the numbers with which a layout breaks
abbrev pub is_broken : ℕ → Bool
is_broken n = eqb n numbers.ends_early || (eqb n numbers.left_over || eqb n numbers.list_cut)

-- 02, M-105, 1 and 2: 10 is not given, and with every number but those three the place is 0
pub record Placed (d : Did) : Type 0 where
  pub never-ten : eqb d.answer 10 ≡ false
  pub else-none : is_broken d.answer ≡ false → d.place ≡ 0

-- the call is on connection d: it hands over its bytes, opens or closes it, or collects on it
abbrev pub is_of : ℕ → Option ℕ → Bool
is_of d none = false
is_of d (some c) = eqb d c

abbrev pub call_on : ℕ → Call served → Bool
call_on d (bytes c room piece) = eqb d c
call_on d (other e) = is_of d (whose (on e))

-- 01, Mistakes, 1: connection d has what it had: its half-read message, its room, and its line but for its marks
pub record Kept (d : ℕ) (before after : Held) : Type 0 where
  pub half : half_at d after.halves ≡ half_at d before.halves
  pub room : room_at d after.rooms ≡ room_at d before.rooms
  pub line : with_marks false false (line_at d after.board) ≡ with_marks false false (line_at d before.board)

-- 01, What the box holds, 1: no input's count is above 4294967295
pub record CountsFit (b : Board) : Type 0 where
  pub at : (k : ℕ) → (input_at k b).count ≤ 4294967295

-- a message's content, and that it is made of bytes
abbrev pub content_of : Got → List ℕ
content_of keep_alive = []
content_of stray = []
content_of too_long = []
content_of (frame sum content) = content

abbrev pub InBytes : Got → Type 0
InBytes g = (i : ℕ) → get_or (content_of g) i 0 < 256
