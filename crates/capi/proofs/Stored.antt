-- The row after a call of bytes: what `board::bytes` says of the place and the pulse, and `lent::put_pulse` of the row, together.
use mathlib.Core.Path.{◌≡◌}
use mathlib.Core.List.{List}
use Prim.Native.Nat.{ℕ}
use lib.Dec.{ltb}
use lib.ListN.{set}
use Rattle.std.specs.Prelude.{Option, Some, None}
use Rattle.laws.proofs.Tests.{by_cases}
use Rattle.rows.specs.Places.{Board, queue_of}
use Rattle.ring.specs.declared.Pulse.{Pulse}
use Rattle.ring.specs.Ring.{seat_of, newest, row_after}

-- a record in the row, where it has a place
abbrev pub stored_at : Option ℕ → Pulse → List Pulse → List Pulse
stored_at (Some i) p row = set row i p
stored_at None p row = row

at-seat : (b b' : Board) (row : List Pulse) → stored_at (seat_of (queue_of b) (queue_of b')) (newest b') row ≡ row_after b b' row
unfolding row_after seat_of
at-seat b b' row = by_cases (ltb (queue_of b).standing (queue_of b').standing) (λ t. rw t) (λ f. rw f)

pub stored : (b b' : Board) (row : List Pulse) (place : Option ℕ) → place ≡ seat_of (queue_of b) (queue_of b')
    → stored_at place (newest b') row ≡ row_after b b' row
stored b b' row place is_place = rw is_place (at-seat b b' row)
