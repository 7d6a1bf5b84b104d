-- For one input, two answers that a contract allows are equal, and so are the boards after them.
use mathlib.Core.Path.{◌≡◌, sym, ◌∙◌}
use Rattle.rows.specs.Places.{Board}
use Rattle.std.specs.Prelude.{Result}
use Rattle.modules.specs.declared.Moved.{Moved}
use Rattle.refusals.specs.declared.Refusal.{Refusal}
use Rattle.changes.specs.Answers.{Change, Makes}
use Rattle.changes.proofs.level.Reads as level
use Rattle.changes.proofs.close_relay.Reads as close-relay
use Rattle.changes.proofs.open_relay.Reads as open-relay
use Rattle.changes.proofs.toggle_relay.Reads as toggle-relay
use Rattle.changes.proofs.clear_count.Reads as clear-count
use Rattle.changes.proofs.clear_input_usage.Reads as clear-input-usage
use Rattle.changes.proofs.clear_relay_usage.Reads as clear-relay-usage
use Rattle.changes.proofs.write_input.Reads as write-input
use Rattle.changes.proofs.write_relay.Reads as write-relay

pub same : {m : Change} {b b' : Board} {r r' : Result Moved Refusal} → Makes m b r → Makes m b' r' → (r ≡ r') × (b ≡ b')
same p q = (p.gives ∙ sym q.gives, p.leaves ∙ sym q.leaves)

pub unique-level : (κs : _) (a : _) (r r' : _) (s s' : _) → level.Post κs a r s → level.Post κs a r' s' → (r ≡ r') × (s.0.now ≡ s'.0.now)
unique-level κs a r r' s s' p q = same p q

pub unique-close-relay : (κs : _) (a : _) (r r' : _) (s s' : _) → close-relay.Post κs a r s → close-relay.Post κs a r' s'
    → (r ≡ r') × (s.0.now ≡ s'.0.now)
unique-close-relay κs a r r' s s' p q = same p q

pub unique-open-relay : (κs : _) (a : _) (r r' : _) (s s' : _) → open-relay.Post κs a r s → open-relay.Post κs a r' s'
    → (r ≡ r') × (s.0.now ≡ s'.0.now)
unique-open-relay κs a r r' s s' p q = same p q

pub unique-toggle-relay : (κs : _) (a : _) (r r' : _) (s s' : _) → toggle-relay.Post κs a r s → toggle-relay.Post κs a r' s'
    → (r ≡ r') × (s.0.now ≡ s'.0.now)
unique-toggle-relay κs a r r' s s' p q = same p q

pub unique-clear-count : (κs : _) (a : _) (r r' : _) (s s' : _) → clear-count.Post κs a r s → clear-count.Post κs a r' s'
    → (r ≡ r') × (s.0.now ≡ s'.0.now)
unique-clear-count κs a r r' s s' p q = same p q

pub unique-clear-input-usage : (κs : _) (a : _) (r r' : _) (s s' : _) → clear-input-usage.Post κs a r s → clear-input-usage.Post κs a r' s'
    → (r ≡ r') × (s.0.now ≡ s'.0.now)
unique-clear-input-usage κs a r r' s s' p q = same p q

pub unique-clear-relay-usage : (κs : _) (a : _) (r r' : _) (s s' : _) → clear-relay-usage.Post κs a r s → clear-relay-usage.Post κs a r' s'
    → (r ≡ r') × (s.0.now ≡ s'.0.now)
unique-clear-relay-usage κs a r r' s s' p q = same p q

pub unique-write-input : (κs : _) (a : _) (r r' : _) (s s' : _) → write-input.Post κs a r s → write-input.Post κs a r' s'
    → (r ≡ r') × (s.0.now ≡ s'.0.now)
unique-write-input κs a r r' s s' p q = same p q

pub unique-write-relay : (κs : _) (a : _) (r r' : _) (s s' : _) → write-relay.Post κs a r s → write-relay.Post κs a r' s'
    → (r ≡ r') × (s.0.now ≡ s'.0.now)
unique-write-relay κs a r r' s s' p q = same p q
