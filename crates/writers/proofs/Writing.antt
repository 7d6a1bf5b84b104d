-- The laws of a writer: one piece behind another is the two in a row, also where the lent bytes end.
use mathlib.Core.Path.{◌≡◌, refl, sym, ap, ◌∙◌}
use mathlib.Core.Bool.{Bool, true, false, cond}
use mathlib.Core.List.{List, [], ◌∷◌, ◌++◌}
use Prim.Native.Nat.{ℕ, zero, suc, ◌+◌, ◌≤◌, ◌<◌}
use native.Mathlib.Nat.{add-zero, div-one, min-eq_left, min-eq_right}
use native.Mathlib.Omega.{arith}
use native.Mathlib.Numerals.{add-one}
use lib.Dec.{leb}
use borrow.Author.Tests.{leb-true, leb-false, le-leb}
use lib.ListN.{length, get_or, set, take, drop, length-set, length-append}
use mir.Val.{bool_byte}
use lib.Seq.{set_out, take_all}
use Rattle.std.specs.Prelude.{min}
use Rattle.std.specs.Int.{w64, to_be_bytes}
use Rattle.words.specs.Words.{bytes_of}
use Rattle.laws.specs.Put.{put, rows}
use Rattle.laws.proofs.Put.{length-put, put-append}
use Rattle.laws.proofs.Rows.{rows-suc}
use Rattle.laws.proofs.Tests.{by_cases}
use Rattle.writers.specs.declared.Writer.{Writer}
use Rattle.writers.specs.Writing.{Wrote}
use Rattle.writers.specs.Writers.{Sent}

-- past the end nothing is stored
pub put-past : (at : ℕ) (vs l : List ℕ) → length l ≤ at → put at vs l ≡ l
unfolding put
put-past at [] l h = refl
put-past at (v ∷ vs) l h = rw (set_out l at v h) (put-past (suc at) vs l (omega arith))

-- what is past the end may be left out
pub put-cut : (at k : ℕ) (vs l : List ℕ) → length l ≤ at + k → put at (take k vs) l ≡ put at vs l
unfolding put
put-cut at zero vs l h = sym (put-past at vs l (omega arith))
put-cut at (suc k) [] l h = refl
put-cut at (suc k) (v ∷ vs) l h = put-cut (suc at) k vs (set l at v) (omega (arith, length-set l at v))

-- one byte more of those that are stored, whether it has room or not
pub cut-more : (at i : ℕ) (vs l : List ℕ) → i < length vs → set (put at (take i vs) l) (at + i) (get_or vs i 0) ≡ put at (take (i + 1) vs) l
unfolding put
cut-more at i [] l h = absurd (omega arith)
cut-more at zero (v ∷ vs) l h = rw add-zero refl
cut-more at (suc i) (v ∷ vs) l h =
    let e : at + suc i ≡ suc at + i = omega arith in
    let f : suc i + 1 ≡ suc (i + 1) = omega arith in
    rw (e, f) (cut-more (suc at) i vs (set l at v) (omega (arith, h)))

pub cut-skip : (at i : ℕ) (vs l : List ℕ) → length l ≤ at + i → put at (take i vs) l ≡ put at (take (i + 1) vs) l
cut-skip at i vs l h = put-cut at i vs l h ∙ sym (put-cut at (i + 1) vs l (omega (arith, h)))

pub put-on : (at : ℕ) (xs ys l : List ℕ) → put (min (at + length xs) (length l)) ys (put at xs l) ≡ put at (xs ++ ys) l
put-on at xs ys l =
    by_cases (leb (at + length xs) (length l))
    (λ t. rw (min-eq_left (leb-true (at + length xs) (length l) t)) (put-append at xs ys l))
    (λ f. let past : length l ≤ at + length xs = omega (arith, leb-false (at + length xs) (length l) f) in
    let full : length (put at xs l) ≡ length l = length-put at xs l in
    rw (min-eq_right past, put-past (length l) ys (put at xs l) (omega arith))
    (sym (put-past (at + length xs) ys (put at xs l) (omega arith)) ∙ put-append at xs ys l))

pub then : {xs ys : List ℕ} {w₀ w₁ w₂ : Writer} → Wrote xs w₀ w₁ → Wrote ys w₁ w₂ → Wrote (xs ++ ys) w₀ w₂
then {xs} {ys} {w₀} {w₁} {w₂} a b =
    let same : length w₁.out.now ≡ length w₀.out.now = ap length a.bytes ∙ length-put w₀.at xs w₀.out.now in
    record {
      same = b.same ∙ a.same;
      bytes = b.bytes ∙ rw (a.place, a.bytes) (put-on w₀.at xs ys w₀.out.now);
      place = omega (arith, b.place, a.place, same, length-append xs ys);
    }

-- two answers to one write are equal
pub same : {vs : List ℕ} {w₀ w w' : Writer} → Wrote vs w₀ w → Wrote vs w₀ w' → (w.out.now ≡ w'.out.now) × (w.at ≡ w'.at)
same a b = (a.bytes ∙ sym b.bytes, a.place ∙ sym b.place)

-- nothing
pub start : {w : Writer} → Wrote [] w w
unfolding put
start {w} = record { same = refl; bytes = refl; place = omega (arith, w.within) }

-- a yes or no as a byte
pub byte-when : (b : Bool) → bool_byte b ≡ cond b 1 0
byte-when true = refl
byte-when false = refl

-- the low bytes of a number, of eight
pub low-two : (n : ℕ) → drop 6 (to_be_bytes w64 n) ≡ bytes_of 2 n
low-two n = rw div-one refl

pub low-four : (n : ℕ) → drop 4 (to_be_bytes w64 n) ≡ bytes_of 4 n
low-four n = rw div-one refl

-- from what was written to what a writer answers, where there was room
pub sent : {room r : ℕ} {vs o₀ o : List ℕ} {w₀ w : Writer} → room ≤ length o₀ → length vs ≤ room → w₀.out.now ≡ o₀ → w₀.at ≡ 0 → Wrote vs w₀ w
    → o ≡ w.out.now → r ≡ w.at → Sent room vs o₀ o r
sent {room} {r} {vs} {o₀} {o} {w₀} {w} h s b z a e g =
    let f = le-leb room (length o₀) h in
    let long : length w₀.out.now ≡ length o₀ = ap length b in
    let whole : r ≡ length vs = omega (arith, a.place, z, g, long) in
    record { bytes = e ∙ a.bytes ∙ rw (z, b, f); len = whole ∙ rw f }

-- the loop that writes a row of bytes for each element: the rows of k are written; its beginning, one more, and the end
pub record Rowing {A : Type 0} (f : A → List ℕ) (xs : List A) (w₀ w : Writer) (k : ℕ) : Type 0 where
  pub wrote : Wrote (rows f (take k xs)) w₀ w

module _ {A : Type 0} {f : A → List ℕ} {xs : List A} {w₀ : Writer} where
  pub begin : Rowing f xs w₀ w₀ 0
  unfolding rows
  begin = record { wrote = start }

  pub turn : {w w' : Writer} {k : ℕ} (d : A) → Rowing f xs w₀ w k → k < length xs → Wrote (f (get_or xs k d)) w w' → Rowing f xs w₀ w' (k + 1)
  turn {w} {w'} {k} d m h a = record { wrote = rw (add-one, rows-suc f xs k d h) (then m.wrote a) }

  pub end : {w : Writer} {k : ℕ} → Rowing f xs w₀ w k → length xs ≤ k → Wrote (rows f xs) w₀ w
  end m h = rw take_all at m.wrote
