-- A call for a place, as its answer tells.
--     on-place    nothing refuses it;   off-place   something does
use mathlib.Core.Path.{◌≡◌, ap, ◌∙◌}
use Prim.Native.Nat.{ℕ}
use native.Mathlib.Omega.{arith}
use Rattle.laws.proofs.Tests.{by_cases}
use Rattle.rows.specs.Places.{Board}
use Rattle.modules.specs.Modules.{is_place}
use Rattle.pulses.specs.Pulses.{short_row}
use Rattle.answers.specs.declared.Served.{Served}
use Rattle.answers.specs.Calls.{served_of, Gives}
use Rattle.filling.specs.Filling.{place_answer, on_place}

module _ (f : ℕ → Board → Board) (records p : ℕ) {b b' : Board} {a : ℕ} {r : Served} (e : a ≡ place_answer records p) (g : r ≡ served_of a 0) where
  pub on-place : a ≡ 1 → b' ≡ f p b → Gives (on_place f records p b) b' r
  on-place t m =
      by_cases (short_row records)
      (λ s. by_cases (is_place p)
      (λ y. let n = simp (s, y) at e in absurd (omega (arith, t, n)))
      (λ y. let n = simp (s, y) at e in absurd (omega (arith, t, n))))
      (λ s. by_cases (is_place p)
      (λ y. simp (s, y) (record { board = m; gives = g ∙ ap (λ (n : ℕ). served_of n 0) t }))
      (λ y. let n = simp (s, y) at e in absurd (omega (arith, t, n))))

  pub off-place : ¬ (a ≡ 1) → b' ≡ b → Gives (on_place f records p b) b' r
  off-place t m =
      by_cases (short_row records)
      (λ s. by_cases (is_place p)
      (λ y. let n = simp (s, y) at e in simp (s, y) (record { board = m; gives = g ∙ ap (λ (n : ℕ). served_of n 0) n }))
      (λ y. let n = simp (s, y) at e in simp (s, y) (record { board = m; gives = g ∙ ap (λ (n : ℕ). served_of n 0) n })))
      (λ s. by_cases (is_place p)
      (λ y. let n = simp (s, y) at e in absurd (t n))
      (λ y. let n = simp (s, y) at e in simp (s, y) (record { board = m; gives = g ∙ ap (λ (n : ℕ). served_of n 0) n })))
