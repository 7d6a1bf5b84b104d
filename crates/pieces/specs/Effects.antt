-- What a call of the host gives back, and what it leaves of the board and the reply buffer: 01, Answer numbers.
use Rattle.std.specs.Prelude.{◌≡◌, List, ℕ, length}
use Rattle.laws.specs.Put.{put}
use Rattle.rows.specs.Places.{Board}
use Rattle.answers.specs.declared.Served.{Served}
use Rattle.answers.specs.Calls.{Did}
use Rattle.pieces.specs.declared.Done.{Done}

-- a call's effect: what was done, with the whole board after it, and the bytes taken
pub record Effect : Type 0 where
  pub did : Did
  pub taken : ℕ

abbrev pub effect : Did → ℕ → Effect
effect d n = record { did = d; taken = n }

-- what it gives back
abbrev pub done_of : Effect → Done
done_of e = record { answer = e.did.answer; taken = e.taken; place = e.did.place; len = length e.did.reply }

-- what the plain machine gave back, with the bytes taken
abbrev pub made_of : Served → ℕ → Done
made_of s n = record { answer = s.answer; taken = n; place = s.place; len = s.len }

-- 01, Answer numbers, 6: an event, which takes none
abbrev pub still : Did → Effect
still d = effect d 0

-- a call: the board after it, and its answer
pub record Ends (e : Effect) (b : Board) (r : Done) : Type 0 where
  pub board : b ≡ e.did.board
  pub gives : r ≡ done_of e

-- a call with a reply buffer: the reply besides at the buffer's front, whose other bytes stay
pub record Answers (e : Effect) (b : Board) (o₀ o : List ℕ) (r : Done) : Type 0 where
  pub board : b ≡ e.did.board
  pub gives : r ≡ done_of e
  pub leaves : o ≡ put 0 e.did.reply o₀
