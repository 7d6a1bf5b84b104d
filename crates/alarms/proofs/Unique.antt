-- For one input, two answers that a contract allows are equal.
use mathlib.Core.Path.{◌≡◌, sym, ◌∙◌}
use Rattle.alarms.proofs.alarm_state.Reads as alarm-state
use Rattle.alarms.proofs.alarm_above.Reads as alarm-above
use Rattle.alarms.proofs.alarm_at_or_above.Reads as alarm-at-or-above

pub unique-alarm-state : (κs : _) (a : _) (r r' : _) (s s' : _) → alarm-state.Post κs a r s → alarm-state.Post κs a r' s' → r ≡ r'
unique-alarm-state κs a r r' s s' p q = p ∙ sym q

pub unique-alarm-above : (κs : _) (a : _) (r r' : _) (s s' : _) → alarm-above.Post κs a r s → alarm-above.Post κs a r' s' → r ≡ r'
unique-alarm-above κs a r r' s s' p q = p ∙ sym q

pub unique-alarm-at-or-above : (κs : _) (a : _) (r r' : _) (s s' : _) → alarm-at-or-above.Post κs a r s → alarm-at-or-above.Post κs a r' s' → r ≡ r'
unique-alarm-at-or-above κs a r r' s s' p q = p ∙ sym q
