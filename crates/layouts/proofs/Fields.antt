-- Fields that a reader takes off the front of a content, each where the one before it ended; and what is left behind a place.
--     field-at      a field's number, 0 where it is not there whole, is that of its place
--     past-onward   behind a field a reader stands so many bytes further on, or at the content's end
--     fields-off    so fields taken one behind the other stand one behind the other
--     drop-onward, rest-onward, rest-of-new    what lies behind a place that is kept within the content is what lies behind the place itself
--     number-drop   a number in what is left behind a place stands that much further on in the content
use mathlib.Core.Path.{◌≡◌, refl, sym, ap, ◌∙◌}
use mathlib.Core.Bool.{Bool, true, false, ◌&&◌, cond}
use mathlib.Core.List.{List, [], ◌∷◌}
use Prim.Native.Nat.{ℕ, zero, suc, ◌+◌, ◌-◌, ◌≤◌, ◌<◌}
use native.Mathlib.Nat.{le_refl, min-eq_left, min-eq_right, add_assoc}
use native.Mathlib.Omega.{arith}
use borrow.Author.Tests.{le-leb, lt-leb, leb-true, leb-false}
use lib.Dec.{leb}
use lib.ListN.{length, take, drop, length-drop, drop_of_length-le}
use lib.Seq.{drop-drop, take_all}
use Rattle.std.specs.Result.{result_unwrap_or}
use Rattle.laws.proofs.Tests.{by_cases}
use Rattle.words.specs.Words.{fits, field_of, number_at}
use Rattle.words.proofs.Laws.{fits-no}
use Rattle.layouts.specs.Layouts.{onward}
use Rattle.layouts.specs.Fields.{onward_of, past, field_off, fields_of}

-- a test on a sum, with a part of it on the other side
leb-shift : (p a l : ℕ) → p ≤ l → leb a (l - p) ≡ leb (p + a) l
leb-shift p a l h =
    by_cases (leb (p + a) l)
    (λ t. rw t (le-leb a (l - p) (omega (arith, leb-true (p + a) l t))))
    (λ f. rw f (lt-leb a (l - p) (omega (arith, leb-false (p + a) l f))))

-- a number in the rest behind place p is the number p further on
pub number-drop : (s : List ℕ) (p i n : ℕ) → p ≤ length s → number_at (drop p s) i n ≡ number_at s (p + i) n
unfolding number_at fits
number-drop s p i n h = rw (length-drop, drop-drop, leb-shift p (i + n) (length s) h, ← add_assoc)

-- what lies behind a place that is kept within the list
pub drop-onward : (s : List ℕ) (at by : ℕ) → drop (onward_of s at by) s ≡ drop (at + by) s
drop-onward s at by =
    by_cases (leb (at + by) (length s))
    (λ t. ap (λ (p : ℕ). drop p s) (min-eq_left (leb-true (at + by) (length s) t)))
    (λ f.
    let l : length s < at + by = leb-false (at + by) (length s) f in
    let e : onward_of s at by ≡ length s = min-eq_right {n = length s} {m = at + by} (omega arith) in
    drop_of_length-le s {i = onward_of s at by} (omega arith) ∙ sym (drop_of_length-le s {i = at + by} (omega arith)))

-- the same as a part of a lent slice
pub rest-onward : (s : List ℕ) (at by p : ℕ) → p ≡ onward_of s at by → take (length s - p) (drop p s) ≡ drop (at + by) s
rest-onward s at by p e = take_all (length s - p) (drop p s) (rw length-drop (le_refl (length s - p))) ∙ ap (λ (i : ℕ). drop i s) e ∙ drop-onward s at by

-- so what a new reader of any place has left is what lies behind that place, also where it is past the content's end
pub rest-of-new : (s left : List ℕ) (at : ℕ) (reader : List ℕ × ℕ) → reader ≡ (s, onward_of s at 0) → left ≡ drop reader.1 reader.0 → left ≡ drop at s
rest-of-new s left at reader new rest =
    let front : at + 0 ≡ at = omega arith in
    rest ∙ ap (λ (r : List ℕ × ℕ). drop r.1 r.0) new ∙ drop-onward s at 0 ∙ ap (λ (p : ℕ). drop p s) front

-- past the end there is no number
number_past : (s : List ℕ) (at n : ℕ) → length s < at + n → number_at s at n ≡ 0
unfolding number_at
number_past s at n h = rw (fits-no s at n h) (neither (leb n 8))
  where
    neither : (b : Bool) → cond (b && false) (field_of s at n) 0 ≡ 0
    neither true = refl
    neither false = refl

-- a field of no bytes is 0 wherever it stands
number-none : (s : List ℕ) (at : ℕ) → number_at s at 0 ≡ 0
unfolding number_at
number-none s at = by_cases (leb 0 8 && fits s at 0) (λ t. rw t) (λ f. rw f)

-- so a number may be sought at a place that is kept within the content
number-onward : (s : List ℕ) (at by n : ℕ) → 0 < n → number_at s (onward_of s at by) n ≡ number_at s (at + by) n
number-onward s at by n h =
    by_cases (leb (at + by) (length s))
    (λ t. ap (λ (p : ℕ). number_at s p n) (min-eq_left (leb-true (at + by) (length s) t)))
    (λ f.
    let l : length s < at + by = leb-false (at + by) (length s) f in
    number_past s (onward_of s at by) n (rw (min-eq_right {n = length s} {m = at + by} (omega arith)) (omega arith)) ∙ sym (number_past s (at + by) n
    (omega arith)))

-- a field behind another is there where the other's bytes end, be it whole or not
pub number_behind : (s : List ℕ) (at by n : ℕ) → number_at s (onward_of s at by) n ≡ number_at s (at + by) n
number_behind s at by zero = number-none s (onward_of s at by) ∙ sym (number-none s (at + by))
number_behind s at by (suc n) = number-onward s at by (suc n) (omega arith)

-- a field as its number, 0 where it is not there whole
number-off : (s : List ℕ) (at n : ℕ) → result_unwrap_or (field_off n (s, at)) 0 ≡ number_at s at n
unfolding onward
number-off s at n =
    by_cases (leb (at + n) (length s)) (λ t. rw t) (λ f. rw f (sym (number_past s at n (leb-false (at + n) (length s) f))))

pub field-at : (s : List ℕ) (at by n : ℕ) → result_unwrap_or (field_off n (s, onward_of s at by)) 0 ≡ number_at s (at + by) n
field-at s at by n = number-off s (onward_of s at by) n ∙ number_behind s at by n

pub past-onward : (s : List ℕ) (at by n : ℕ) → past n (s, onward_of s at by) ≡ (s, onward_of s at (by + n))
past-onward s at by n =
    by_cases (leb (onward_of s at by + n) (length s))
    (λ t. rw t (ap (λ (p : ℕ). (s, p)) (omega (arith, leb-true (onward_of s at by + n) (length s) t))))
    (λ f. rw f (ap (λ (p : ℕ). (s, p)) (omega (arith, leb-false (onward_of s at by + n) (length s) f))))

-- the numbers of fields, each taken off where the one before it ended
abbrev pub taken_in : List ℕ × ℕ → List ℕ → List ℕ
taken_in reader [] = []
taken_in reader (n ∷ widths) = result_unwrap_or (field_off n reader) 0 ∷ taken_in (past n reader) widths

fields-from : (s : List ℕ) (at by : ℕ) (widths : List ℕ) → taken_in (s, onward_of s at by) widths ≡ fields_of s (at + by) widths
fields-from s at by [] = refl
fields-from s at by (n ∷ widths) =
    rw (field-at s at by n, past-onward s at by n, add_assoc) (ap (λ (xs : List ℕ). number_at s (at + by) n ∷ xs) (fields-from s at (by + n) widths))

-- fields taken one behind the other, from a place on or from the content's end, stand one behind the other
pub fields-off : (s : List ℕ) (at : ℕ) (widths : List ℕ) → taken_in (s, onward_of s at 0) widths ≡ fields_of s at widths
fields-off s at widths = let front : at + 0 ≡ at = omega arith in fields-from s at 0 widths ∙ ap (λ (p : ℕ). fields_of s p widths) front
