-- A call of time: refused with a row that is too short, all its ms passed at once, or over behind the last turn of its loop.
use mathlib.Core.Path.{◌≡◌, refl}
use mathlib.Core.Bool.{true, false}
use mathlib.Core.List.{List}
use Prim.Native.Nat.{ℕ}
use lib.ListN.{length}
use Rattle.std.specs.Prelude.{None}
use Rattle.rows.specs.Places.{Board, queue_of}
use Rattle.ring.specs.declared.Pulse.{Pulse}
use Rattle.pulses.specs.Pulses.{short_row, ends_within, waited, elapsed}
use Rattle.pulses.proofs.Passing.{Passing}
use Rattle.pulses.proofs.Ticks.{quiet}
use Rattle.plain.specs.Events.{time_passed}
use Rattle.pieces.specs.Effects.{Ends}
use Rattle.board.specs.Calls.{pass_call, passed_in}

module _ (row : List Pulse) (d : ℕ) (b z : Board) where
  pub pass-refused : short_row (length row) ≡ true → z ≡ b → Ends (pass_call d row b) z (passed_in 4)
  unfolding pass_call time_passed
  pass-refused s e = record { board = rw s e; gives = rw s refl }

  pub pass-over : short_row (length row) ≡ false → Passing row d b None z → Ends (pass_call d row b) z (passed_in 1)
  unfolding pass_call time_passed
  pass-over s m = record { board = rw s m.reaches; gives = rw s refl }

  pub pass-quiet : short_row (length row) ≡ false → ends_within d (queue_of b) ≡ false → z ≡ waited d b → Ends (pass_call d row b) z (passed_in 1)
  unfolding pass_call time_passed elapsed
  pass-quiet s e w = record { board = rw (s, quiet row d b e) w; gives = rw s refl }
