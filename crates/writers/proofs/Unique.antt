-- For one input, two answers that the contract allows are equal, and so are the lent bytes after them and the place behind what is written.
use mathlib.Core.Path.{◌≡◌, sym, ◌∙◌}
use Rattle.writers.proofs.Writing.{same}
use Rattle.writers.proofs.Writer.new.Reads as new
use Rattle.writers.proofs.Writer.bytes.Reads as bytes
use Rattle.writers.proofs.Writer.u8.Reads as u8
use Rattle.writers.proofs.Writer.u16.Reads as u16
use Rattle.writers.proofs.Writer.u64.Reads as u64
use Rattle.writers.proofs.Writer.flag.Reads as flag

pub unique-new : (κs : _) (a : _) (r r' : _) (s s' : _) → new.Post κs a r s → new.Post κs a r' s' → (r.out.now ≡ r'.out.now) × (r.at ≡ r'.at)
unique-new κs a r r' s s' p q = (p.1.0 ∙ sym q.1.0, p.1.1 ∙ sym q.1.1)

pub unique-bytes : (κs : _) (a : _) (r r' : _) (s s' : _) → bytes.Post κs a r s → bytes.Post κs a r' s' → (s.0.now.out.now ≡ s'.0.now.out.now) ×
    (s.0.now.at ≡ s'.0.now.at)
unique-bytes κs a r r' s s' p q = same p q

pub unique-u8 : (κs : _) (a : _) (r r' : _) (s s' : _) → u8.Post κs a r s → u8.Post κs a r' s' → (s.0.now.out.now ≡ s'.0.now.out.now) ×
    (s.0.now.at ≡ s'.0.now.at)
unique-u8 κs a r r' s s' p q = same p q

pub unique-u16 : (κs : _) (a : _) (r r' : _) (s s' : _) → u16.Post κs a r s → u16.Post κs a r' s' → (s.0.now.out.now ≡ s'.0.now.out.now) ×
    (s.0.now.at ≡ s'.0.now.at)
unique-u16 κs a r r' s s' p q = same p q

pub unique-u64 : (κs : _) (a : _) (r r' : _) (s s' : _) → u64.Post κs a r s → u64.Post κs a r' s' → (s.0.now.out.now ≡ s'.0.now.out.now) ×
    (s.0.now.at ≡ s'.0.now.at)
unique-u64 κs a r r' s s' p q = same p q

pub unique-flag : (κs : _) (a : _) (r r' : _) (s s' : _) → flag.Post κs a r s → flag.Post κs a r' s' → (s.0.now.out.now ≡ s'.0.now.out.now) ×
    (s.0.now.at ≡ s'.0.now.at)
unique-flag κs a r r' s s' p q = same p q
