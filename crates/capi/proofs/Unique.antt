-- For one input, two answers that a contract allows are equal, and so is what is left of what was lent.
use mathlib.Core.Path.{◌≡◌, ap, sym, ◌∙◌}
use Rattle.pieces.specs.declared.Done.{Done}
use Rattle.pieces.proofs.Same.{ends, answers, halved}
use Rattle.capi.proofs.wellacorn_power_up.Reads as power-up
use Rattle.capi.proofs.wellacorn_level.Reads as level
use Rattle.capi.proofs.wellacorn_pass.Reads as pass
use Rattle.capi.proofs.wellacorn_pass_pulsed.Reads as pass-pulsed
use Rattle.capi.proofs.wellacorn_connect.Reads as connect
use Rattle.capi.proofs.wellacorn_close.Reads as close
use Rattle.capi.proofs.wellacorn_bytes.Reads as bytes
use Rattle.capi.proofs.wellacorn_collect.Reads as collect
use Rattle.capi.proofs.wellacorn_fill.Reads as fill
use Rattle.capi.proofs.wellacorn_empty.Reads as empty

pub unique-power-up : (κs : _) (a : _) (r r' : _) (s s' : _) → power-up.Post κs a r s → power-up.Post κs a r' s' → s.0.now ≡ s'.0.now
unique-power-up κs a r r' s s' p q = p ∙ sym q

pub unique-level : (κs : _) (a : _) (r r' : _) (s s' : _) → level.Post κs a r s → level.Post κs a r' s' → (r ≡ r') × (s.0.now ≡ s'.0.now)
unique-level κs a r r' s s' p q = ends p.0 q.0

pub unique-pass : (κs : _) (a : _) (r r' : _) (s s' : _) → pass.Post κs a r s → pass.Post κs a r' s' → (r ≡ r') × (s.0.now ≡ s'.0.now)
unique-pass κs a r r' s s' p q = ends p.0 q.0

pub unique-pass-pulsed : (κs : _) (a : _) (r r' : _) (s s' : _) → pass-pulsed.Post κs a r s → pass-pulsed.Post κs a r' s' → (r ≡ r') × (s.0.now ≡ s'.0.now)
unique-pass-pulsed κs a r r' s s' p q = let same = ends p q in (ap (λ (d : Done). d.answer) same.0, same.1)

pub unique-connect : (κs : _) (a : _) (r r' : _) (s s' : _) → connect.Post κs a r s → connect.Post κs a r' s'
    → (r ≡ r') × (s.0.now ≡ s'.0.now) × (s.1.0.now ≡ s'.1.0.now)
unique-connect κs a r r' s s' p q = halved a.1.1.0 a.1.0.now (p.0, p.1.0) (q.0, q.1.0)

pub unique-close : (κs : _) (a : _) (r r' : _) (s s' : _) → close.Post κs a r s → close.Post κs a r' s'
    → (r ≡ r') × (s.0.now ≡ s'.0.now) × (s.1.0.now ≡ s'.1.0.now)
unique-close κs a r r' s s' p q = halved a.1.1.0 a.1.0.now (p.0, p.1.0) (q.0, q.1.0)

-- an answer, and all that is lent, after the call: board, half-read messages, their room, the row of pulses and the reply buffer
pub unique-bytes : (κs : _) (a : _) (r r' : _) (s s' : _) → bytes.Post κs a r s → bytes.Post κs a r' s'
    → (r ≡ r') × (s.0.now ≡ s'.0.now) × (s.1.0.now ≡ s'.1.0.now) × (s.1.1.0.now ≡ s'.1.1.0.now) × (s.1.1.1.0.now ≡ s'.1.1.1.0.now) ×
    (s.1.1.1.1.1.1.0.now ≡ s'.1.1.1.1.1.1.0.now)
unique-bytes κs a r r' s s' p q =
    let same = answers p.0 q.0 in
    (same.0, same.1, p.1.0 ∙ sym q.1.0, p.1.1.0 ∙ sym q.1.1.0, p.1.1.1.0 ∙ sym q.1.1.1.0, same.2)

pub unique-collect : (κs : _) (a : _) (r r' : _) (s s' : _) → collect.Post κs a r s → collect.Post κs a r' s'
    → (r ≡ r') × (s.0.now ≡ s'.0.now) × (s.1.1.0.now ≡ s'.1.1.0.now)
unique-collect κs a r r' s s' p q = answers p.0 q.0

pub unique-fill : (κs : _) (a : _) (r r' : _) (s s' : _) → fill.Post κs a r s → fill.Post κs a r' s' → (r ≡ r') × (s.0.now ≡ s'.0.now)
unique-fill κs a r r' s s' p q = ends p.0 q.0

-- an answer, the board and the row, after the call
pub unique-empty : (κs : _) (a : _) (r r' : _) (s s' : _) → empty.Post κs a r s → empty.Post κs a r' s'
    → (r ≡ r') × (s.0.now ≡ s'.0.now) × (s.1.0.now ≡ s'.1.0.now)
unique-empty κs a r r' s s' p q = let same = ends p.0 q.0 in (same.0, same.1, p.1.0 ∙ sym q.1.0)
