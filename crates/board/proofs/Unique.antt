-- For one input, two answers that a contract of the crate board allows are equal, and so is what is left of what was lent.
use mathlib.Core.Path.{◌≡◌, sym, ◌∙◌}
use Rattle.pieces.proofs.Same.{ends, answers, halved}
use Rattle.board.proofs.level.Reads as level
use Rattle.board.proofs.passed.Reads as passed
use Rattle.board.proofs.connect.Reads as connect
use Rattle.board.proofs.close.Reads as close
use Rattle.board.proofs.collect.Reads as collect
use Rattle.board.proofs.fill.Reads as fill
use Rattle.board.proofs.empty.Reads as empty
use Rattle.board.proofs.bytes.Reads as bytes

pub unique-board-level : (κs : _) (a : _) (r r' : _) (s s' : _) → level.Post κs a r s → level.Post κs a r' s' → (r ≡ r') × (s.0.now ≡ s'.0.now)
unique-board-level κs a r r' s s' p q = ends p.0 q.0

pub unique-board-passed : (κs : _) (a : _) (r r' : _) (s s' : _) → passed.Post κs a r s → passed.Post κs a r' s' → r ≡ r'
unique-board-passed κs a r r' s s' p q = p.0 ∙ sym q.0

pub unique-board-connect : (κs : _) (a : _) (r r' : _) (s s' : _) → connect.Post κs a r s → connect.Post κs a r' s'
    → (r ≡ r') × (s.0.now ≡ s'.0.now) × (s.1.0.now ≡ s'.1.0.now)
unique-board-connect κs a r r' s s' p q = halved a.1.1.0 a.1.0.now (p.0, p.1.0) (q.0, q.1.0)

pub unique-board-close : (κs : _) (a : _) (r r' : _) (s s' : _) → close.Post κs a r s → close.Post κs a r' s'
    → (r ≡ r') × (s.0.now ≡ s'.0.now) × (s.1.0.now ≡ s'.1.0.now)
unique-board-close κs a r r' s s' p q = halved a.1.1.0 a.1.0.now (p.0, p.1.0) (q.0, q.1.0)

pub unique-board-collect : (κs : _) (a : _) (r r' : _) (s s' : _) → collect.Post κs a r s → collect.Post κs a r' s'
    → (r ≡ r') × (s.0.now ≡ s'.0.now) × (s.1.1.0.now ≡ s'.1.1.0.now)
unique-board-collect κs a r r' s s' p q = answers p.0 q.0

pub unique-board-bytes : (κs : _) (a : _) (r r' : _) (s s' : _) → bytes.Post κs a r s → bytes.Post κs a r' s'
    → (r ≡ r') × (s.0.now ≡ s'.0.now) × (s.1.0.now ≡ s'.1.0.now) × (s.1.1.0.now ≡ s'.1.1.0.now) ×
    (s.1.1.1.1.1.1.0.now ≡ s'.1.1.1.1.1.1.0.now)
unique-board-bytes κs a r r' s s' p q =
    let same = answers p.0 q.0 in
    let at : r.at ≡ r'.at = p.1.1.1.0.0 ∙ sym q.1.1.1.0.0 in
    let pulse : r.pulse ≡ r'.pulse = p.1.1.1.0.1 ∙ sym q.1.1.1.0.1 in
    ((λ i. record { done = same.0 i; at = at i; pulse = pulse i }), same.1, p.1.0 ∙ sym q.1.0, p.1.1.0 ∙ sym q.1.1.0, same.2)

pub unique-board-fill : (κs : _) (a : _) (r r' : _) (s s' : _) → fill.Post κs a r s → fill.Post κs a r' s' → (r ≡ r') × (s.0.now ≡ s'.0.now)
unique-board-fill κs a r r' s s' p q = ends p.0 q.0

pub unique-board-empty : (κs : _) (a : _) (r r' : _) (s s' : _) → empty.Post κs a r s → empty.Post κs a r' s' → (r ≡ r') × (s.0.now ≡ s'.0.now)
unique-board-empty κs a r r' s s' p q = ends p.0 q.0
