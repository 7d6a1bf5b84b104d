-- How a line's digits are read: one turn of each loop, and its end.
use mathlib.Core.Path.{◌≡◌, refl, sym, ap, ◌∙◌}
use mathlib.Core.Bool.{Bool, true, false, ◌&&◌, false≢true}
use mathlib.Core.List.{List, [], ◌∷◌, ◌++◌}
use Rattle.std.specs.Prelude.{None, Some}
use Prim.Native.Nat.{ℕ, zero, suc, ◌+◌, ◌*◌, ◌/◌, ◌%◌, ◌≤◌, ◌<◌}
use native.Mathlib.Omega.{arith}
use native.Mathlib.Numerals.{add-one}
use borrow.Author.Tests.{leb-true}
use lib.Dec.{eqb, leb, ltb}
use lib.ListN.{length, get_or, set, length-set, length-append}
use Rattle.std.specs.List.{list_all}
use Rattle.laws.specs.Put.{put, Wrote}
use Rattle.laws.proofs.Put.{put-none}
use Rattle.laws.proofs.Tests.{by_cases}
use Rattle.hexadecimal.specs.Digits.{is_digit, digit_of, all_digits, feeds, pairs, parsed, bytes_in}

-- ---- every character a digit

pub list_all_digits : (line : List ℕ) → list_all is_digit line ≡ all_digits line
unfolding all_digits
list_all_digits [] = refl
list_all_digits (c ∷ cs) = rw (list_all_digits cs)

-- ---- the bytes of a line

pairs-short : (cs : List ℕ) → length cs < 2 → pairs cs ≡ []
unfolding pairs
pairs-short [] h = refl
pairs-short (a ∷ []) h = refl
pairs-short (a ∷ (b ∷ cs)) h = absurd (omega arith)

pairs-step : (pair rest : List ℕ) → length pair ≡ 2 → pairs (pair ++ rest) ≡ (digit_of (get_or pair 0 0) * 16 + digit_of (get_or pair 1 0)) ∷ pairs rest
unfolding pairs
pairs-step [] rest h = absurd (omega (arith, h))
pairs-step (a ∷ []) rest h = absurd (omega (arith, h))
pairs-step (a ∷ (b ∷ [])) rest h = refl
pairs-step (a ∷ (b ∷ (c ∷ cs))) rest h = absurd (omega (arith, h))

-- the loop's invariant: count bytes are written; what is left of the line gives what the whole does
pub record Unpacking (line o₀ left o : List ℕ) (count : ℕ) : Type 0 where
  pub whole : length left + (count + count) ≡ length line
  pub same : length o ≡ length o₀
  pub bytes : put count (pairs left) o ≡ put 0 (pairs line) o₀
  pub size : count + length (pairs left) ≡ length (pairs line)

module _ {line o₀ : List ℕ} where
  pub unpack-start : Unpacking line o₀ line o₀ 0
  unpack-start = record { whole = omega arith; same = refl; bytes = refl; size = omega arith }

  pub unpack-turn : {o left : List ℕ} (pair rest : List ℕ) {count x : ℕ} → Unpacking line o₀ left o count → left ≡ pair ++ rest → length pair ≡ 2
      → x ≡ digit_of (get_or pair 0 0) * 16 + digit_of (get_or pair 1 0)
      → Unpacking line o₀ rest (set o count x) (count + 1)
  unfolding put
  unpack-turn {o} {left} pair rest {count} {x} m cut two e =
      let s : pairs left ≡ x ∷ pairs rest = rw (cut, e) (pairs-step pair rest two) in
      record {
        whole = omega (arith, m.whole, ap length cut, length-append pair rest, two);
        same = length-set o count x ∙ m.same;
        bytes = rw add-one (rw s at m.bytes);
        size = omega (arith, m.size, ap length s);
      }

  pub unpack-done : {o left : List ℕ} {count : ℕ} → Unpacking line o₀ left o count → length left < 2 → Wrote 0 (pairs line) o₀ o (length line / 2)
  unpack-done {o} {left} {count} m h =
      let e : pairs left ≡ [] = pairs-short left h in
      record { bytes = sym (put-none count o) ∙ rw e at m.bytes; place = omega (arith, m.whole, m.size, ap length e) }

-- ---- a line that can be fed

pub feeds-short : (line : List ℕ) → feeds line ≡ true → length line ≤ 2058
unfolding feeds
feeds-short line e =
    let a = and_right (ltb 0 (length line)) (eqb (length line % 2) 0 && (leb (length line) 2058 && all_digits line)) e in
    let b = and_right (eqb (length line % 2) 0) (leb (length line) 2058 && all_digits line) a in
    leb-true (length line) 2058 (and_left (leb (length line) 2058) (all_digits line) b)
  where
    and_right : (a b : Bool) → a && b ≡ true → b ≡ true
    and_right true b e = e
    and_right false b e = absurd (false≢true e)

    and_left : (a b : Bool) → a && b ≡ true → a ≡ true
    and_left true b e = refl
    and_left false b e = absurd (false≢true e)

-- a line that is fed has at most 1,029 bytes
pairs-length : (n : ℕ) (line : List ℕ) → length line ≤ n + n → length (pairs line) ≤ n
unfolding pairs
pairs-length n [] h = omega arith
pairs-length n (a ∷ []) h = omega arith
pairs-length zero (a ∷ (b ∷ cs)) h = absurd (omega arith)
pairs-length (suc n) (a ∷ (b ∷ cs)) h = let t : length (pairs cs) ≤ n = pairs-length n cs (omega arith) in omega arith

pub parsed-length : (line : List ℕ) → length (bytes_in (parsed line)) ≤ 1029
unfolding parsed
parsed-length line = by_cases (feeds line) (λ t. rw t (pairs-length 1029 line (omega (arith, feeds-short line t)))) (λ f. rw f (omega arith))

pub parsed-some : (line : List ℕ) → feeds line ≡ true → parsed line ≡ Some (pairs line)
unfolding parsed
parsed-some line t = rw t

pub parsed-none : (line : List ℕ) → feeds line ≡ false → parsed line ≡ None
unfolding parsed
parsed-none line f = rw f
