-- 02, M-100, 3: what may be done while a pulse runs leaves it its place, its ms and what it remembers. Beside a request (request-beside, in Time):
--     clock-beside                     a clock setting
--     level-beside                     an input's level
--     input-beside, relay-beside       a command on one input or relay;   block-beside   on a block of relays
--     input-entry, relay-entry         an entry that is written
--     mark-beside, connection-beside   marks; an opening, a closing and whatever else is done to a connection
--     beside-then                      one of these behind another
use mathlib.Core.Path.{◌≡◌, refl, sym, ap, ◌∙◌}
use mathlib.Core.Bool.{Bool, true, false}
use mathlib.Core.List.{List, []}
use Prim.Native.Nat.{ℕ, ◌<◌}
use native.Mathlib.Omega.{arith}
use lib.Dec.{eqb, ltb}
use lib.ListN.{length, set, length-set}
use lib.Seq.{get_or-set_other}
use borrow.Author.Tests.{ltb-true}
use Rattle.laws.proofs.Tests.{by_cases}
use Rattle.records.specs.declared.Input.{Input}
use Rattle.records.specs.declared.Relay.{Relay}
use Rattle.records.specs.declared.Line.{Line}
use Rattle.records.specs.Records.{queue_in, input_words, relay_words, line_words}
use Rattle.rows.specs.Places.{Board, is_channel, is_relay, is_connection, row_at, input_place, relay_place, line_place, input_at, relay_at}
use Rattle.rows.specs.Places.{put_input, put_relay, put_line, clock_row, clock_set, first_relay, first_line, queue_row, queue_of, on_rows}
use Rattle.rows.proofs.Channel.{in-range, relay-range}
use Rattle.rows.proofs.Range.{beyond}
use Rattle.changes.specs.Answers.{on_input, on_relay}
use Rattle.blocks.specs.Blocks.{blocked_row, block_of}
use Rattle.changes.specs.Entries.{write_input, write_relay}
use Rattle.changes.specs.Levels.{has_level, level_of}
use Rattle.edits.specs.Edits.{told, input_written, relay_written, relay_fails}
use Rattle.modules.specs.declared.Moved.{Moved}
use Rattle.modules.specs.Modules.{has_module}
use Rattle.marks.specs.Marks.{marked_row, any_moved, marked}
use Rattle.ring.specs.Ring.{runs}
use Rattle.queue.specs.Meanwhile.{Beside}
use Rattle.queue.proofs.Relays.{rows-length}

pub beside-then : {x y z : Board} → Beside x y → Beside y z → Beside x z
beside-then s t =
    record {
      first = t.first ∙ s.first;
      left = t.left ∙ s.left;
      remembered = t.remembered ∙ s.remembered;
      still-runs = t.still-runs;
      size = t.size ∙ s.size;
    }

module _ (z : Board) (r : runs (queue_of z) ≡ true) where
  -- where the queue's row stays
  same_queue : (z' : Board) → row_at queue_row z' ≡ row_at queue_row z → queue_of z' ≡ queue_of z
  unfolding queue_of
  same_queue z' e = ap queue_in e

  row-beside : (z' : Board) → row_at queue_row z' ≡ row_at queue_row z → length z' ≡ length z → Beside z z'
  row-beside z' e l =
      let q : queue_of z' ≡ queue_of z = same_queue z' e in
      record { first = rw q; left = rw q; remembered = rw q; still-runs = rw q r; size = l }

  -- where one row before it is stored
  set-beside : (j : ℕ) (row : List ℕ) → j < queue_row → Beside z (set z j row)
  set-beside j row h = row-beside (set z j row) (get_or-set_other z j queue_row row [] (λ e. omega arith)) (length-set z j row)

  same_beside : Beside z z
  same_beside = row-beside z refl refl

  pub clock-beside : (v : ℕ) → Beside z (clock_set v z)
  unfolding clock_set
  clock-beside v = set-beside clock_row _ (omega arith)

  pub input-beside : (f : Input → Input) (k : ℕ) → Beside z (on_input f k z).board
  unfolding on_input put_input
  input-beside f k =
      by_cases (is_channel k)
      (λ t. let h = in-range k (sym t) refl in rw t (set-beside (input_place k) (input_words (f (input_at k z))) (omega (arith, h))))
      (λ n. rw n same_beside)

  pub relay-beside : (there : Bool) (f : Relay → Relay) (k : ℕ) → Beside z (on_relay there f k z).board
  unfolding on_relay put_relay
  relay-beside false f k = same_beside
  relay-beside true f k =
      by_cases (is_relay k)
      (λ t. let h = relay-range k (sym t) refl in rw t (set-beside (relay_place k) (relay_words (row_at (relay_place k) z) (f (relay_at k z))) (omega (arith, h))))
      (λ n. rw n same_beside)

  pub level-beside : (k v : ℕ) → Beside z (level_of k v z).board
  unfolding level_of
  level-beside k v =
      by_cases (ltb 1 v) (λ t. rw t same_beside)
      (λ n. by_cases (has_level k (eqb v 1) z) (λ t. rw (n, t) same_beside) (λ m. rw (n, m) (input-beside (told (eqb v 1)) k)))

  pub input-entry : (k flags count : ℕ) → Beside z (write_input k flags count z).board
  unfolding write_input
  input-entry k flags count = by_cases (ltb 7 flags) (λ t. rw t same_beside) (λ n. rw n (input-beside (input_written flags count) k))

  pub relay-entry : (k flags state : ℕ) → Beside z (write_relay k flags state z).board
  unfolding write_relay
  relay-entry k flags state = by_cases (relay_fails flags state) (λ t. rw t same_beside) (λ n. rw n (relay-beside (is_channel k) (relay_written flags state) k))

  pub block-beside : (mask states : ℕ) → Beside z (block_of mask states z).board
  unfolding block_of
  block-beside mask states =
      row-beside (block_of mask states z).board (beyond first_relay 16 queue_row (blocked_row mask states) z (omega arith))
      (rows-length first_relay 16 (blocked_row mask states) z)

  pub mark-beside : (moved : Moved) → Beside z (marked moved z)
  unfolding marked
  mark-beside moved =
      let f : ℕ → List ℕ → List ℕ = λ _. marked_row moved.inner (has_module z) in
      by_cases (any_moved moved)
      (λ t. rw t (row-beside (on_rows first_line 4 f z) (beyond first_line 4 queue_row f z (omega arith)) (rows-length first_line 4 f z)))
      (λ n. rw n same_beside)

  pub connection-beside : (c : ℕ) (l : Line) → Beside z (put_line c l z)
  unfolding put_line
  connection-beside c l =
      by_cases (is_connection c)
      (λ t. let h = ltb-true c 4 t in rw t (set-beside (line_place c) (line_words l) (omega arith)))
      (λ n. rw n same_beside)
