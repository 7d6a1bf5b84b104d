-- `capi::wellacorn_pass_pulsed`: what the ms that are left lead to is what all ms do; each turn one pulse fewer waits.
use mathlib.Core.Path.{◌≡◌}
use mathlib.Core.Bool.{false}
use lib.ListN.{length}
use Rattle.pulses.specs.Pulses.{short_row}
use Rattle.pulses.proofs.Passing.{Passing, waiting}
use Rattle.capi.proofs.wellacorn_pass_pulsed.Given as goal

abbrev pub invariant-loop-ending : goal.invariant-loop-ending
invariant-loop-ending l = (short_row (length l.row) ≡ false) × Passing l.row l.d l.fn.board l.ending l.board

abbrev pub decreases-loop-ending : goal.decreases-loop-ending
decreases-loop-ending l = waiting l.board
