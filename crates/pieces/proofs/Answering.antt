-- How what the bytes of a piece came to is answered: by its number, or by the judgement of the message that ended.
use mathlib.Core.Path.{◌≡◌, refl, ap, sym, ◌∙◌}
use mathlib.Core.Bool.{Bool, true}
use mathlib.Core.List.{List}
use mathlib.Core.Option.{some}
use Prim.Native.Nat.{ℕ, ◌≤◌}
use native.Mathlib.Omega.{arith}
use borrow.Author.Tests.{ltb-true, ltb-false, le-leb, lt-leb, le-ltb}
use lib.Dec.{ltb}
use lib.ListN.{length, take}
use Rattle.laws.proofs.Put.{put-none}
use Rattle.laws.proofs.Tests.{by_cases}
use Rattle.steps.specs.declared.Half.{Half}
use Rattle.steps.specs.declared.Outcome.{Outcome}
use Rattle.steps.specs.declared.Outcome.TheVariants.{Waiting, KeepAlive, Stray, Message}
use Rattle.steps.specs.Steps.{number_of}
use Rattle.framing.specs.declared.Fed.{Fed}
use Rattle.framing.specs.Reading.{Run, run_of, got_of}
use Rattle.std.specs.Prelude.{Ok, Err}
use Rattle.refusals.specs.declared.Refusal.TheVariants.{TooLong}
use Rattle.frames.specs.Judge.{Judged, judge_of, refusal_of}
use Rattle.rows.specs.Places.{Board}
use Rattle.answers.specs.declared.Served.{Served}
use Rattle.connections.specs.Lines.{is_open, is_strict}
use Rattle.answers.specs.Calls.{Did, served_of, Does, refused}
use Rattle.serving.specs.Serving.{served_content, served_call, unless_refused, served_message}
use Rattle.halves.specs.Halves.{Halves, half_at}
use Rattle.halves.specs.Rooms.{room_at, put_room}
use Rattle.pieces.specs.declared.Done.{Done}
use Rattle.pieces.specs.Effects.{still, made_of, Answers}
use Rattle.pieces.specs.Pieces.{answered, fed, fed_call}

-- a content that is ready to be served at a call is served
pub served-ready : (c : ℕ) (s : List ℕ) (room : ℕ) (p : Board) → is_open c p ≡ true → 4096 ≤ room → length s ≤ 1024
    → served_call c s room p ≡ served_content c s p
unfolding served_call
served-ready c s room p o h l = rw (o, le-ltb room 4096 h, le-ltb 1024 (length s) l)

-- an answer with no reply
pub alone : {d : Did} {n : ℕ} {p : Board} {o : List ℕ} {r : Served} → d ≡ refused n p → r ≡ served_of n 0 → Does d p o o r
alone {o = o} e g = record { board = rw e; gives = g ∙ rw e; leaves = rw e (sym (put-none 0 o)) }

-- ---- a message that has ended

-- it is judged by the strictness that was read off the board
pub judged-by : (len sum : ℕ) (room : List ℕ) {read strict : Bool} {j k : Judged} → j ≡ judge_of len sum room read → read ≡ strict → j ≡ k
    → judge_of len sum room strict ≡ k
judged-by len sum room e f g = ap (judge_of len sum room) (sym f) ∙ sym e ∙ g

-- one that is judged whole lies in the room
pub whole-fits : (len sum : ℕ) (room : List ℕ) (strict : Bool) → judge_of len sum room strict ≡ Ok tt → len ≤ length room
unfolding judge_of
whole-fits len sum room strict e =
    by_cases (ltb (length room) len)
    (λ q. let y : ◌≡◌ {A = Judged} (Err TooLong) (Ok tt) = rw q at e in let z : ◌≡◌ {A = ℕ} 0 1 = cc in absurd (omega arith))
    (λ q. ltb-false (length room) len q)

module _ (len sum : ℕ) (room : List ℕ) (c : ℕ) (p : Board) where
  -- it is refused with the number of its judgement, which goes by the connection's strictness, or its content is served
  pub judged-as : answered c (got_of room (Message len sum)) p
      ≡ unless_refused (refusal_of (judge_of len sum room (is_strict c p))) (served_content c (take len room) p) p
  unfolding judge_of served_message
  judged-as =
      by_cases (ltb (length room) len)
      (λ q. rw (q, lt-leb len (length room) (ltb-true (length room) len q)))
      (λ q. rw (q, le-leb len (length room) (ltb-false (length room) len q)))

  -- so where its judgement has a number, that is the answer
  pub refused-so : {j : Judged} {n : ℕ} {o : List ℕ} {r : Served} → judge_of len sum room (is_strict c p) ≡ j → refusal_of j ≡ some n → r ≡ served_of n 0
      → Does (answered c (got_of room (Message len sum)) p) p o o r
  refused-so told number g = alone (judged-as ∙ rw (told, number)) g

-- ---- what the bytes of a piece came to

told : {m n : ℕ} → some m ≡ some n → m ≡ n
told e = cc

-- where it has a number, that is the answer
numbered : (c : ℕ) (room : List ℕ) (x : Outcome) {n : ℕ} (p : Board) → number_of x ≡ some n → answered c (got_of room x) p ≡ refused n p
unfolding served_message
numbered c room (Waiting h) p e = ap (λ (n : ℕ). refused n p) (told e)
numbered c room KeepAlive p e = ap (λ (n : ℕ). refused n p) (told e)
numbered c room Stray p e = ap (λ (n : ℕ). refused n p) (told e)
numbered c room (Message len sum) p e = let z : ◌≡◌ {A = ℕ} 0 1 = cc in absurd (omega arith)

-- bytes that were fed to connection c's half-read message, and the rooms after it
pub fed-as : (c : ℕ) (piece : List ℕ) (hs : Halves) (rooms : List ℕ) {h : Half} {f : Fed} {rooms' : List ℕ} → h ≡ half_at c hs
    → (f ≡ (run_of 0 h (room_at c rooms) piece).fed) × (rooms' ≡ put_room c (run_of 0 h (room_at c rooms) piece).room rooms)
    → (f ≡ (fed c piece hs rooms).fed) × (rooms' ≡ put_room c (fed c piece hs rooms).room rooms)
fed-as c piece hs rooms e w = (w.0 ∙ rw e, w.1 ∙ rw e)

-- bytes that ended no frame: what they are answered
pub quietly : (c : ℕ) (ρ : Run) (b : Board) {f : Fed} {x : Outcome} {n : ℕ} {o : List ℕ} {r : Done} → f ≡ ρ.fed → f.outcome ≡ x → number_of x ≡ some n
    → r ≡ made_of (served_of n 0) f.taken → Answers (fed_call c ρ b) b o o r
quietly c ρ b {x = x} {o = o} e is number g =
    let so : ρ.fed.outcome ≡ x = rw (← e) is in
    let answer = numbered c ρ.room x b number in
    record { board = rw (so, answer); gives = g ∙ rw (so, answer, e); leaves = rw (so, answer) (sym (put-none 0 o)) }

-- bytes that ended one: what its message came to
pub ended_by : (c : ℕ) (ρ : Run) (b : Board) {f : Fed} {len sum : ℕ} {b' : Board} {s : Served} {o o' : List ℕ} {r : Done} → f ≡ ρ.fed
    → f.outcome ≡ Message len sum → Does (answered c (got_of ρ.room (Message len sum)) b) b' o o' s → r ≡ made_of s f.taken
    → Answers (fed_call c ρ b) b' o o' r
ended_by c ρ b {len = len} {sum = sum} e is w g =
    let so : ρ.fed.outcome ≡ Message len sum = rw (← e) is in
    record { board = rw so w.board; gives = g ∙ rw (so, w.gives, e); leaves = rw so w.leaves }

-- a call that is refused before its bytes are taken
pub refused-call : {n : ℕ} {b : Board} {o : List ℕ} {s : Served} {r : Done} → s ≡ served_of n 0 → r ≡ made_of s 0 → Answers (still (refused n b)) b o o r
refused-call {o = o} e g = record { board = refl; gives = g ∙ rw e; leaves = sym (put-none 0 o) }
