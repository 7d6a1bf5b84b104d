-- For one input, two answers that a contract allows are equal, and so are the boards after them.
use mathlib.Core.Path.{◌≡◌, sym, ◌∙◌}
use Rattle.rows.proofs.is_channel.Reads as is-channel
use Rattle.rows.proofs.is_relay.Reads as is-relay
use Rattle.rows.proofs.Board.input_at.Reads as input-at
use Rattle.rows.proofs.Board.put_input.Reads as put-input
use Rattle.rows.proofs.Board.relay_at.Reads as relay-at
use Rattle.rows.proofs.Board.put_relay.Reads as put-relay
use Rattle.rows.proofs.Board.line_at.Reads as line-at
use Rattle.rows.proofs.Board.put_line.Reads as put-line
use Rattle.rows.proofs.Board.set_due.Reads as set-due
use Rattle.rows.proofs.Board.clock.Reads as clock
use Rattle.rows.proofs.Board.set_clock.Reads as set-clock
use Rattle.rows.proofs.Board.queue.Reads as queue-of
use Rattle.rows.proofs.Board.put_queue.Reads as put-queue
use Rattle.rows.proofs.Board.set_left.Reads as set-left

pub unique-is-channel : (κs : _) (a : _) (r r' : _) (s s' : _) → is-channel.Post κs a r s → is-channel.Post κs a r' s' → r ≡ r'
unique-is-channel κs a r r' s s' p q = p ∙ sym q

pub unique-is-relay : (κs : _) (a : _) (r r' : _) (s s' : _) → is-relay.Post κs a r s → is-relay.Post κs a r' s' → r ≡ r'
unique-is-relay κs a r r' s s' p q = p ∙ sym q

pub unique-input-at : (κs : _) (a : _) (r r' : _) (s s' : _) → input-at.Post κs a r s → input-at.Post κs a r' s' → r ≡ r'
unique-input-at κs a r r' s s' p q = p ∙ sym q

pub unique-put-input : (κs : _) (a : _) (r r' : _) (s s' : _) → put-input.Post κs a r s → put-input.Post κs a r' s' → s.0.now ≡ s'.0.now
unique-put-input κs a r r' s s' p q = p ∙ sym q

pub unique-relay-at : (κs : _) (a : _) (r r' : _) (s s' : _) → relay-at.Post κs a r s → relay-at.Post κs a r' s' → r ≡ r'
unique-relay-at κs a r r' s s' p q = p ∙ sym q

pub unique-put-relay : (κs : _) (a : _) (r r' : _) (s s' : _) → put-relay.Post κs a r s → put-relay.Post κs a r' s' → s.0.now ≡ s'.0.now
unique-put-relay κs a r r' s s' p q = p ∙ sym q

pub unique-line-at : (κs : _) (a : _) (r r' : _) (s s' : _) → line-at.Post κs a r s → line-at.Post κs a r' s' → r ≡ r'
unique-line-at κs a r r' s s' p q = p ∙ sym q

pub unique-put-line : (κs : _) (a : _) (r r' : _) (s s' : _) → put-line.Post κs a r s → put-line.Post κs a r' s' → s.0.now ≡ s'.0.now
unique-put-line κs a r r' s s' p q = p ∙ sym q

pub unique-set-due : (κs : _) (a : _) (r r' : _) (s s' : _) → set-due.Post κs a r s → set-due.Post κs a r' s' → s.0.now ≡ s'.0.now
unique-set-due κs a r r' s s' p q = p ∙ sym q

pub unique-clock : (κs : _) (a : _) (r r' : _) (s s' : _) → clock.Post κs a r s → clock.Post κs a r' s' → r ≡ r'
unique-clock κs a r r' s s' p q = p ∙ sym q

pub unique-set-clock : (κs : _) (a : _) (r r' : _) (s s' : _) → set-clock.Post κs a r s → set-clock.Post κs a r' s' → s.0.now ≡ s'.0.now
unique-set-clock κs a r r' s s' p q = p ∙ sym q

pub unique-queue-of : (κs : _) (a : _) (r r' : _) (s s' : _) → queue-of.Post κs a r s → queue-of.Post κs a r' s' → r ≡ r'
unique-queue-of κs a r r' s s' p q = p ∙ sym q

pub unique-put-queue : (κs : _) (a : _) (r r' : _) (s s' : _) → put-queue.Post κs a r s → put-queue.Post κs a r' s' → s.0.now ≡ s'.0.now
unique-put-queue κs a r r' s s' p q = p ∙ sym q

pub unique-set-left : (κs : _) (a : _) (r r' : _) (s s' : _) → set-left.Post κs a r s → set-left.Post κs a r' s' → s.0.now ≡ s'.0.now
unique-set-left κs a r r' s s' p q = p ∙ sym q
