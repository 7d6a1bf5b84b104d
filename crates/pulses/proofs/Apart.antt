-- What stands beside the queue's row and does not touch it: passing time, and a switch of relays.
--     queue-passed, queue-switched   the queue's row stays
--     left_passed                    and the ms left may be set before or after
use mathlib.Core.Path.{◌≡◌, ap, ◌∙◌}
use mathlib.Core.List.{List, []}
use Prim.Native.Nat.{ℕ}
use native.Mathlib.Omega.{arith}
use lib.ListN.{set}
use lib.Seq.{get_or-set_other, set_comm}
use Rattle.laws.proofs.Tests.{by_cases}
use Rattle.records.specs.Records.{queue_in}
use Rattle.rows.specs.Places.{Board, row_at, first_outer, clock_row, clock_set, first_relay, first_line, queue_row, queue_of, left_set, on_rows}
use Rattle.rows.proofs.Range.{behind, beyond, set-behind}
use Rattle.tables.specs.Time.{usage_passed, passed}
use Rattle.blocks.specs.Blocks.{blocked_row, block_of}
use Rattle.modules.specs.declared.Moved.{Moved}
use Rattle.modules.specs.Modules.{has_module}
use Rattle.marks.specs.Marks.{marked_row, any_moved, marked}
use Rattle.pulses.specs.Pulses.{switched}

-- the rows that time grows, all of them before the second deck's
abbrev used : ℕ → Board → Board
used d = on_rows 0 first_outer (λ _. usage_passed d)

row-passed : (d : ℕ) (b : Board) → row_at queue_row (passed d b) ≡ row_at queue_row b
unfolding passed clock_set
row-passed d b = get_or-set_other (used d b) clock_row queue_row _ [] (λ e. omega arith) ∙ behind first_outer queue_row (λ _. usage_passed d) b (omega arith)

pub queue-passed : (d : ℕ) (b : Board) → queue_of (passed d b) ≡ queue_of b
unfolding queue_of
queue-passed d b = ap queue_in (row-passed d b)

set-passed : (d : ℕ) (row : List ℕ) (b : Board) → passed d (set b queue_row row) ≡ set (passed d b) queue_row row
unfolding passed clock_set
set-passed d row b =
    let k : row_at clock_row (set b queue_row row) ≡ row_at clock_row b = get_or-set_other b queue_row clock_row row [] (λ e. omega arith) in
    let u : used d (set b queue_row row) ≡ set (used d b) queue_row row = set-behind first_outer queue_row (λ _. usage_passed d) b row (omega arith) in
    let m : row_at clock_row (set (used d b) queue_row row) ≡ row_at clock_row (used d b) =
    get_or-set_other (used d b) queue_row clock_row row [] (λ e. omega arith) in
    rw (k, u, m) (set_comm (used d b) queue_row clock_row row _ (λ e. omega arith))

pub left_passed : (d v : ℕ) (b : Board) → passed d (left_set v b) ≡ left_set v (passed d b)
unfolding left_set
left_passed d v b = set-passed d _ b ∙ rw (row-passed d b)

row-marked : (moved : Moved) (b : Board) → row_at queue_row (marked moved b) ≡ row_at queue_row b
unfolding marked
row-marked moved b =
    by_cases (any_moved moved)
    (λ t. rw t (beyond first_line 4 queue_row (λ _. marked_row moved.inner (has_module b)) b (omega arith)))
    (λ f. rw f)

row-blocked : (mask states : ℕ) (b : Board) → row_at queue_row (block_of mask states b).board ≡ row_at queue_row b
unfolding block_of
row-blocked mask states b = beyond first_relay 16 queue_row (blocked_row mask states) b (omega arith)

pub queue-switched : (mask states : ℕ) (b : Board) → queue_of (switched mask states b) ≡ queue_of b
unfolding queue_of switched
queue-switched mask states b = ap queue_in (row-marked _ (block_of mask states b).board ∙ row-blocked mask states b)
