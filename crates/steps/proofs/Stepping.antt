-- The law of one byte: an unfinished message and a byte are a whole message or an unfinished one, as cutting off the front says.
use mathlib.Core.Path.{◌≡◌, refl, ap, subst}
use mathlib.Core.Bool.{Bool, true, false, cond}
use mathlib.Core.List.{List, [], ◌∷◌}
use Prim.Native.Nat.{ℕ, suc, ◌+◌, ◌*◌, ◌%◌, ◌≤◌, ◌<◌}
use native.Mathlib.Omega.{arith}
use borrow.Author.Tests.{leb-true, leb-false, lt-leb, lt-ltb, le-ltb, ne_eqb}
use lib.Dec.{eqb, leb}
use lib.ListN.{length, get_or, length-append}
use Rattle.steps.specs.declared.Outcome.{Outcome}
use Rattle.steps.specs.declared.Outcome.TheVariants.{Waiting, KeepAlive, Stray, Message}
use Rattle.steps.specs.Cut.{two, need, whole}
use Rattle.steps.specs.Steps.{half, first_of, after_of, step_of, half_of}
use Rattle.steps.proofs.Cutting.{more}

-- a byte behind the header
pub late : (g l s b : ℕ) → 5 ≤ g → step_of (half g l s) b ≡ after_of g l s
unfolding step_of
late g l s b h =
    let not : (k : ℕ) → k < 5 → eqb g k ≡ false = λ k l. ne_eqb g k (λ e. omega arith) in
    rw (not 0 (omega arith), not 1 (omega arith), not 2 (omega arith), not 3 (omega arith), not 4 (omega arith))

-- what a whole message ends with
abbrev pub end_of : List ℕ → Outcome
end_of m = cond (eqb (get_or m 0 0) 1) (Message (two m 1) (two m 3)) (cond (eqb (get_or m 0 0) 6) KeepAlive Stray)

-- what is unfinished and not empty began with 0x01
pub frame-begun : (a : ℕ) (l : List ℕ) → whole (a ∷ l) ≡ false → eqb a 1 ≡ true
unfolding whole need
frame-begun a l h = go (eqb a 1) _ h
  where
    go : (t : Bool) (u : ℕ) → leb (cond t u 1) (suc (length l)) ≡ false → t ≡ true
    go true u h = refl
    go false u h = absurd (omega (arith, leb-false 1 (suc (length l)) h))

-- a header that is not whole waits on
waits-on : (n u : ℕ) {L L' S S' : ℕ} (e : Outcome) → n < u → L ≡ L' → S ≡ S' → Waiting (half n L S) ≡ cond (leb u n) e (Waiting (half n L' S'))
waits-on n u e q p p' = rw (lt-leb u n q) (λ i. Waiting (half n (p i) (p' i)))

ends_now : (g g' L : ℕ) {S S' : ℕ} → g + 1 ≡ g' → S ≡ S' → after_of g L S ≡ cond (leb (5 + L) g') (Message L S') (Waiting (half g' L S'))
unfolding after_of
ends_now g g' L {S} {S'} q p = subst (λ (k : ℕ). after_of g L S ≡ cond (leb (5 + L) k) (Message L S') (Waiting (half k L S'))) q (go (leb (5 + L) (g + 1)) refl)
  where
    go : (t : Bool) → leb (5 + L) (g + 1) ≡ t → after_of g L S ≡ cond (leb (5 + L) (g + 1)) (Message L S') (Waiting (half (g + 1) L S'))
    go true e = rw (e, le-ltb (g + 1) (5 + L) (leb-true (5 + L) (g + 1) e)) (ap (Message L) p)
    go false e = rw (e, lt-ltb (g + 1) (5 + L) (leb-false (5 + L) (g + 1) e)) (λ i. Waiting (half (g + 1) L (p i)))

-- one byte more of an unfinished message: its end where it is whole, and else how far it is read
pub stepped : (r : List ℕ) (b : ℕ) → whole r ≡ false → step_of (half_of r) b ≡ cond (whole (more r b)) (end_of (more r b)) (Waiting (half_of (more r b)))
unfolding step_of first_of whole need
stepped [] b h = go (eqb b 1) (cond (eqb b 6) KeepAlive Stray) _ (omega arith)
  where
    go : (t : Bool) (e : Outcome) (u : ℕ) → 1 < u
        → cond t (Waiting (half 1 0 0)) e ≡ cond (leb (cond t u 1) 1) (cond t (Message 0 0) e) (Waiting (half 1 0 0))
    go true e u l = rw (lt-leb u 1 l)
    go false e u l = refl
stepped (a ∷ []) b h = rw (frame-begun a [] h) (waits-on 2 (5 + (b % 256 * 256 + 0)) _ (omega arith) (omega arith) refl)
stepped (a ∷ a₁ ∷ []) b h = rw (frame-begun a (a₁ ∷ []) h) (waits-on 3 (5 + (a₁ % 256 * 256 + b % 256)) _ (omega arith) (omega arith) refl)
stepped (a ∷ a₁ ∷ a₂ ∷ []) b h = rw (frame-begun a (a₁ ∷ a₂ ∷ []) h) (waits-on 4 (5 + (a₁ % 256 * 256 + a₂ % 256)) _ (omega arith) refl (omega arith))
stepped (a ∷ a₁ ∷ a₂ ∷ a₃ ∷ []) b h = rw (frame-begun a (a₁ ∷ a₂ ∷ a₃ ∷ []) h) (ends_now 4 5 (a₁ % 256 * 256 + a₂ % 256) refl (omega arith))
stepped (a ∷ a₁ ∷ a₂ ∷ a₃ ∷ a₄ ∷ l) b h = rw (
  late (length (a ∷ a₁ ∷ a₂ ∷ a₃ ∷ a₄ ∷ l)) (a₁ % 256 * 256 + a₂ % 256) (a₃ % 256 * 256 + a₄ % 256) b
      (omega arith),
  frame-begun a (a₁ ∷ a₂ ∷ a₃ ∷ a₄ ∷ l) h,
)
    (ends_now _ _ (a₁ % 256 * 256 + a₂ % 256) (omega (arith, length-append l (b ∷ []))) refl)
