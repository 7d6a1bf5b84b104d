-- Two answers to one call that its contract allows are the same, and so are the board, the reply buffer and the half-read messages after it.
use mathlib.Core.Path.{◌≡◌, sym, ap, ◌∙◌}
use mathlib.Core.List.{List}
use Prim.Native.Nat.{ℕ}
use Rattle.rows.specs.Places.{Board}
use Rattle.pieces.specs.declared.Done.{Done}
use Rattle.halves.specs.Halves.{Halves, dropped}
use Rattle.pieces.specs.Effects.{Effect, Ends, Answers}

pub ends : {e : Effect} {b b' : Board} {r r' : Done} → Ends e b r → Ends e b' r' → (r ≡ r') × (b ≡ b')
ends p q = (p.gives ∙ sym q.gives, p.board ∙ sym q.board)

pub answers : {e : Effect} {b b' : Board} {o₀ o o' : List ℕ} {r r' : Done} → Answers e b o₀ o r → Answers e b' o₀ o' r' → (r ≡ r') × (b ≡ b') × (o ≡ o')
answers p q = (p.gives ∙ sym q.gives, p.board ∙ sym q.board, p.leaves ∙ sym q.leaves)

-- an opening or a closing: what is dropped goes by the answer
pub halved : (c : ℕ) (hs : Halves) {e : Effect} {b b' : Board} {hs₁ hs₂ : Halves} {r r' : Done}
    → Ends e b r × (hs₁ ≡ dropped c r.answer hs) → Ends e b' r' × (hs₂ ≡ dropped c r'.answer hs) → (r ≡ r') × (b ≡ b') × (hs₁ ≡ hs₂)
halved c hs p q =
    let same = ends p.0 q.0 in
    (same.0, same.1, p.1 ∙ ap (λ (x : Done). dropped c x.answer hs) same.0 ∙ sym q.1)
