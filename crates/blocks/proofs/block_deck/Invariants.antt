-- `blocks::block_deck`: each turn sets one relay in place and asks whether it moved.
use Rattle.std.proofs.Common.{◌+◌}
use Rattle.laws.proofs.Each.{Asking}
use Rattle.rows.proofs.Range.{Ranging}
use Rattle.rows.specs.Places.{relay_at, first_relay}
use Rattle.blocks.specs.Blocks.{moves, blocked_row}
use Rattle.blocks.proofs.block_deck.Given as goal

abbrev pub invariant-loop-k : goal.invariant-loop-k
invariant-loop-k l =
    Ranging (l.first + first_relay) 8 (blocked_row l.mask l.state) l.initial.board l.board l.k
    × Asking (λ n. moves l.mask l.state n (relay_at (l.first + n + 1) l.initial.board)) 8 l.changed l.k
