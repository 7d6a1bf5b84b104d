-- `external::write_external`: type, no inputs and the count, a state for each present output, and the clock.
use mathlib.Core.Path.{◌≡◌}
use mathlib.Core.List.{◌++◌}
use Prim.Native.Nat.{ℕ}
use lib.ListN.{length}
use Rattle.std.proofs.Common.{refl, rules, arith}
use Rattle.laws.specs.Put.{rows}
use Rattle.words.specs.Words.{bytes_of}
use Rattle.rows.specs.Places.{Board, relay_at, clock_of}
use Rattle.modules.specs.Modules.{second_deck, outputs}
use Rattle.modules.proofs.Outputs.{rows-present}
use Rattle.writers.specs.Writers.{relay_row}
use Rattle.writers.specs.Writing.{Wrote}
use Rattle.writers.proofs.Writing.{then, sent}
use Rattle.external.specs.External.{present_state, external_reply}
use Rattle.external.proofs.Lengths.{length-external}
use Rattle.external.proofs.write_external.Goals as goal

-- the message, with the states as the loop writes them
whole : (t : Board) (count : ℕ) → count ≡ length (outputs t)
    → bytes_of 1 2 ++ bytes_of 1 0 ++ bytes_of 1 count ++ rows (present_state t) second_deck ++ bytes_of 8 (clock_of t) ≡ external_reply t
unfolding external_reply
whole t count e = rw (e, rows-present (λ k. relay_row (relay_at k t)) t second_deck)

pub returns : goal.returns
returns c =
    let behind = then c.write_states.ensures (rw c.clock.ensures at c.u64.ensures) in
    let wrote : Wrote (external_reply c.args.board.now) c.new-writer.result c.u64.new.self =
    rw (← whole _ _ c.output_count.ensures) (then c.u8.ensures (then c.u8-2.ensures (then c.u8-3.ensures behind))) in
    sent (omega arith) (length-external _) c.new-writer.ensures.bytes c.new-writer.ensures.place wrote (search rules) refl
