-- A call of time, from end to end of the pulses: how far it has come. Document 02, M-100.
use Rattle.std.specs.Prelude.{◌≡◌, cond, ℕ, ◌-◌, min, Option, Some, None, Result, Ok, Err}
use Rattle.refusals.specs.declared.Refusal.{Refusal}
use Rattle.refusals.specs.declared.Refusal.TheVariants.{ShortBuffer}
use Rattle.records.specs.declared.Queue.{Queue}
use Rattle.rows.specs.Places.{Board, queue_of}
use Rattle.tables.specs.Time.{passed}
use Rattle.ring.specs.declared.Pulse.{Pulse}
use Rattle.pulses.specs.declared.Ending.{Ending}
use Rattle.pulses.specs.Pulses.{short_row, lasts, ends_within, turned, waited}
use Rattle.ring.specs.Ring.{place}

-- the board as far as time has passed, and what the call has still to do
pub record Going (A : Type 0) : Type 0 where
  pub board : Board
  pub rest : A

abbrev pub going : {A : Type 0} → Board → A → Going A
going b r = record { board = b; rest = r }

-- the running pulse ends within the d ms that are left: its place in the row, and that of the next
abbrev pub until : ℕ → Queue → Ending
until d q = record { rest = d; running = place q 0; next = place q 1 }

-- d ms more: they pass at once where no pulse ends within them
unfoldable pub onward : ℕ → Board → Going (Option Ending)
onward d b = cond (ends_within d (queue_of b)) (going b (Some (until d (queue_of b)))) (going (waited d b) None)

-- 02, M-100, 5: 4 where the row is too short
unfoldable pub start_of : ℕ → ℕ → Board → Going (Result (Option Ending) Refusal)
start_of records d b =
    let g : Going (Option Ending) = onward d b in
    cond (short_row records) (going b (Err ShortBuffer)) (going g.board (Ok g.rest))

-- up to the running pulse's end, which is p's, and on from there; of ms that are not left none pass
unfoldable pub turn_of : Pulse → Pulse → ℕ → Board → Going (Option Ending)
turn_of p next rest b = let ms : ℕ = min (lasts (queue_of b)) rest in onward (rest - ms) (turned p next (passed ms b))

-- the board that a call leaves, and what it gives back
pub record Goes {A : Type 0} (g : Going A) (b : Board) (r : A) : Type 0 where
  pub board : b ≡ g.board
  pub gives : r ≡ g.rest
