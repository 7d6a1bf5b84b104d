-- For one input, two answers that a contract allows are equal.
use mathlib.Core.Path.{◌≡◌, sym, ◌∙◌}
use Rattle.ring.proofs.Pulse.relay.Reads as relay-pulse
use Rattle.ring.proofs.Pulse.block.Reads as block-pulse
use Rattle.ring.proofs.place_in.Reads as place-in
use Rattle.ring.proofs.join.Reads as join
use Rattle.ring.proofs.Pulse.newest.Reads as newest
use Rattle.ring.proofs.seat.Reads as seat
use Rattle.ring.proofs.pop.Reads as pop

pub unique-relay-pulse : (κs : _) (a : _) (r r' : _) (s s' : _) → relay-pulse.Post κs a r s → relay-pulse.Post κs a r' s' → r ≡ r'
unique-relay-pulse κs a r r' s s' p q = p ∙ sym q

pub unique-block-pulse : (κs : _) (a : _) (r r' : _) (s s' : _) → block-pulse.Post κs a r s → block-pulse.Post κs a r' s' → r ≡ r'
unique-block-pulse κs a r r' s s' p q = p ∙ sym q

pub unique-place-in : (κs : _) (a : _) (r r' : _) (s s' : _) → place-in.Post κs a r s → place-in.Post κs a r' s' → r ≡ r'
unique-place-in κs a r r' s s' p q = p ∙ sym q

pub unique-join : (κs : _) (a : _) (r r' : _) (s s' : _) → join.Post κs a r s → join.Post κs a r' s' → r ≡ r'
unique-join κs a r r' s s' p q = p ∙ sym q

pub unique-newest : (κs : _) (a : _) (r r' : _) (s s' : _) → newest.Post κs a r s → newest.Post κs a r' s' → r ≡ r'
unique-newest κs a r r' s s' p q = p ∙ sym q

pub unique-seat : (κs : _) (a : _) (r r' : _) (s s' : _) → seat.Post κs a r s → seat.Post κs a r' s' → r ≡ r'
unique-seat κs a r r' s s' p q = p ∙ sym q

pub unique-pop : (κs : _) (a : _) (r r' : _) (s s' : _) → pop.Post κs a r s → pop.Post κs a r' s' → r ≡ r'
unique-pop κs a r r' s s' p q = p ∙ sym q
