-- Two answers that one contract allows are the same, and so are the board and the reply buffer after them.
use mathlib.Core.Path.{◌≡◌, sym, ◌∙◌}
use mathlib.Core.List.{List}
use Prim.Native.Nat.{ℕ}
use Rattle.rows.specs.Places.{Board}
use Rattle.answers.specs.declared.Served.{Served}
use Rattle.answers.specs.Calls.{Did, Gives, Does}

pub given-same : {d : Did} {b b' : Board} {r r' : Served} → Gives d b r → Gives d b' r' → (r ≡ r') × (b ≡ b')
given-same p q = (p.gives ∙ sym q.gives, p.board ∙ sym q.board)

pub done-same : {d : Did} {b b' : Board} {o₀ o o' : List ℕ} {r r' : Served} → Does d b o₀ o r → Does d b' o₀ o' r' → (r ≡ r') × (b ≡ b') × (o ≡ o')
done-same p q = (p.gives ∙ sym q.gives, p.board ∙ sym q.board, p.leaves ∙ sym q.leaves)
