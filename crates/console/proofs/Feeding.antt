-- A line is fed: the piece that was parsed, and what the call of the box then says of the line.
use mathlib.Core.Path.{◌≡◌, refl, sym, ap, ◌∙◌}
use mathlib.Core.List.{List}
use Rattle.std.specs.Prelude.{Option, Some, None, option_map}
use Prim.Native.Nat.{ℕ, ◌≤◌}
use native.Mathlib.Omega.{arith}
use lib.ListN.{length, take}
use lib.Seq.{take_at}
use Rattle.laws.specs.Put.{put}
use Rattle.laws.proofs.Put.{length-put, put_front, put-none}
use Rattle.answers.specs.Calls.{refused}
use Rattle.rows.specs.Places.{Board}
use Rattle.pieces.specs.declared.Done.{Done}
use Rattle.halves.specs.Halves.{Halves}
use Rattle.pieces.specs.Effects.{Answers, still, done_of}
use Rattle.pieces.specs.Pieces.{bytes_call, halves_after, rooms_after}
use Rattle.hexadecimal.specs.Digits.{parsed, bytes_in}
use Rattle.console.specs.Lines.{offered, halves_offered, rooms_offered, line_call, line_halves, line_rooms}
use Rattle.hexadecimal.proofs.Reading.{parsed-length}

-- the first n bytes of the store are what the line holds
pub piece-parsed : (line store₀ store : List ℕ) (n : ℕ) (r : Option ℕ) → length store₀ ≡ 1029
    → r ≡ option_map length (parsed line) → store ≡ put 0 (bytes_in (parsed line)) store₀ → r ≡ Some n
    → (n ≤ length store) × (parsed line ≡ Some (take n store))
piece-parsed line store₀ store n r l e s q =
    let t = counted (parsed line) (sym e ∙ q) in
    let short = parsed-length line in
    let same : length store ≡ 1029 = ap length s ∙ length-put 0 (bytes_in (parsed line)) store₀ ∙ l in
    let front = s ∙ put_front (bytes_in (parsed line)) store₀ (omega arith) in
    (omega (arith, t.1), t.0 ∙ ap Some (sym (ap (take n) front ∙ take_at (bytes_in (parsed line)) _ n (sym t.1))))
  where
    counted : (o : Option (List ℕ)) → option_map length o ≡ Some n → (o ≡ Some (bytes_in o)) × (n ≡ length (bytes_in o))
    counted None e = let z : ◌≡◌ {A = ℕ} 0 1 = cc in absurd (omega arith)
    counted (Some bs) e = (refl, cc)

-- what feeding a line answers and leaves
abbrev pub FedLine : List ℕ → Board → Halves → List ℕ → List ℕ → Board → Halves → List ℕ → List ℕ → Done → Type 0
FedLine line b hs rooms reply b' hs' rooms' reply' r =
    Answers (line_call line b hs rooms) b' reply reply' r × ((hs' ≡ line_halves line b hs rooms) × (rooms' ≡ line_rooms line b hs rooms))

module _ (line rooms : List ℕ) (b : Board) (hs : Halves) {reply : List ℕ} where
  pub line-fed : {b' : Board} {hs' : Halves} {rooms' reply' : List ℕ} {r : Done} (piece : List ℕ) → length reply ≡ 4096 → parsed line ≡ Some piece
      → Answers (bytes_call 0 piece (length reply) 31 b hs rooms) b' reply reply' r
      × ((hs' ≡ halves_after 0 piece (length reply) 31 b hs rooms) × (rooms' ≡ rooms_after 0 piece (length reply) 31 b hs rooms))
      → FedLine line b hs rooms reply b' hs' rooms' reply' r
  unfolding line_call line_halves line_rooms offered halves_offered rooms_offered
  line-fed piece l e a = rw e (rw l at a)

  pub line-bad : {r : Option ℕ} → r ≡ option_map length (parsed line) → r ≡ None
      → FedLine line b hs rooms reply b hs rooms reply (done_of (still (refused 255 b)))
  unfolding line_call line_halves line_rooms offered halves_offered rooms_offered
  line-bad e q = rw (nothing (parsed line) (sym e ∙ q)) (record { board = refl; gives = refl; leaves = sym (put-none 0 reply) }, (refl, refl))
    where
      nothing : (o : Option (List ℕ)) → option_map length o ≡ None → o ≡ None
      nothing None e = refl
      nothing (Some bs) e = let z : ◌≡◌ {A = ℕ} 0 1 = cc in absurd (omega arith)
