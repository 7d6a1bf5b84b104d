-- The loops of `copy`: four bytes more, one byte more, and the end.
use mathlib.Core.Path.{◌≡◌, sym, ◌∙◌}
use mathlib.Core.List.{List, [], ◌∷◌}
use Prim.Native.Nat.{ℕ, suc, ◌+◌, ◌-◌, ◌≤◌, ◌<◌}
use native.Mathlib.Numerals.{add-one}
use native.Mathlib.Omega.{arith}
use lib.ListN.{length, get_or, take, drop, set, drop_of_length-le}
use lib.Seq.{drop-cons, take-length}
use Rattle.laws.specs.Put.{put}
use Rattle.laws.proofs.Put.{put-none}
use Rattle.words.specs.Words.{Stored}
use Rattle.words.proofs.Turns.{store-yes}

-- the first four stand from `to` on, and what is left of xs comes behind them
pub four_more : (xs o : List ℕ) (to n : ℕ) → 4 ≤ length xs → n ≡ length xs - 4
    → put (to + 4) (take n (drop 4 xs))
    (set (set (set (set o to (get_or xs 0 0)) (to + 1) (get_or xs 1 0)) (to + 2) (get_or xs 2 0)) (to + 3) (get_or xs 3 0)) ≡ put to xs o
unfolding put
four_more (a ∷ b ∷ c ∷ d ∷ l) o to n h m =
    let s : n ≡ length l = omega arith in
    let e₁ : to + 1 ≡ suc to = omega arith in
    let e₂ : to + 2 ≡ suc (suc to) = omega arith in
    let e₃ : to + 3 ≡ suc (suc (suc to)) = omega arith in
    let e₄ : to + 4 ≡ suc (suc (suc (suc to))) = omega arith in
    rw (e₁, e₂, e₃, e₄, s, take-length l)
four_more [] o to n h m = absurd (omega arith)
four_more (a ∷ []) o to n h m = absurd (omega arith)
four_more (a ∷ b ∷ []) o to n h m = absurd (omega arith)
four_more (a ∷ b ∷ c ∷ []) o to n h m = absurd (omega arith)

pub one_more : (xs o : List ℕ) (to i : ℕ) → i < length xs → put (to + 1) (drop (i + 1) xs) (set o to (get_or xs i 0)) ≡ put to (drop i xs) o
unfolding put
one_more xs o to i h =
    let e : to + 1 ≡ suc to = omega arith in
    rw (e, add-one, drop-cons xs i 0 h)

-- nothing is left
pub all_stored : (xs rest o₀ o : List ℕ) (at to i : ℕ) → at + length xs ≤ length o₀ → length rest ≤ i → to + length (drop i rest) ≡ at + length xs
    → put to (drop i rest) o ≡ put at xs o₀ → Stored at xs o₀ o to
all_stored xs rest o₀ o at to i fit l e f =
    let d : drop i rest ≡ [] = drop_of_length-le rest l in
    let g : to + length {A = ℕ} [] ≡ at + length xs = rw d at e in
    store-yes fit (record { bytes = sym (put-none to o) ∙ rw d at f; place = omega arith })
