-- `powerup::power_up`: each turn stores one input, or one relay.
use lib.ListN.{get_or}
use Rattle.records.specs.Records.{input_words, relay_words}
use Rattle.rows.proofs.Range.{Ranging}
use Rattle.powerup.specs.PowerUp.{fresh_input, blank_settings, fresh_relay}
use Rattle.rows.specs.Places.{first_input, first_relay}
use Rattle.powerup.proofs.power_up.Given as goal

abbrev pub invariant-loop-k : goal.invariant-loop-k
invariant-loop-k l = Ranging first_input 8 (λ j _. input_words (fresh_input (get_or l.settings-items j blank_settings))) l.initial.board l.board l.k

abbrev pub invariant-loop-k-2 : goal.invariant-loop-k-2
invariant-loop-k-2 l = Ranging first_relay 8 (λ j row. relay_words row (fresh_relay (get_or l.setpoint-items j 0))) l.initial.board l.board l.k
