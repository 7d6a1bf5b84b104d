-- What the private functions of a turn promise, in terms of Reading: it decides nothing.
use Rattle.std.specs.Prelude.{◌≡◌, List, ℕ, ◌≤◌, ◌<◌, length, drop}
use Rattle.steps.specs.declared.Half.{Half}
use Rattle.steps.specs.declared.Outcome.{Outcome}
use Rattle.framing.specs.declared.Fed.{Fed}
use Rattle.framing.specs.Reading.{Run, run, onward, run_of}

-- behind bytes that were taken up to place k and came to o: where their message waits, the rest is read on
abbrev pub read_on : ℕ → Outcome → List ℕ → List ℕ → Run
read_on k o room rest = onward o (λ h. run_of k h room rest) (run k o room)

-- a turn takes bytes of a piece from place i on, one at least, and reading on behind them comes to the same as reading on from i byte by byte
pub record Turn (i : ℕ) (h : Half) (room piece : List ℕ) (f : Fed) (room' : List ℕ) : Type 0 where
  pub some : i < f.taken
  pub within : f.taken ≤ length piece
  pub same : read_on f.taken f.outcome room' (drop f.taken piece) ≡ run_of i h room (drop i piece)
