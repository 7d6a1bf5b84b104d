-- What is done while a pulse runs. Document 02, M-100.
use Rattle.std.specs.Prelude.{◌≡◌, true, List, ℕ, zero, suc, length}
use Rattle.rows.specs.Places.{Board, queue_of}
use Rattle.tables.specs.Time.{passed}
use Rattle.ring.specs.declared.Pulse.{Pulse}
use Rattle.pulses.specs.Pulses.{tick}
use Rattle.ring.specs.Ring.{runs}

-- 02, M-100, 3: what was done between two boards, a command, a block, a write entry, a request, left the running pulse what is its own
pub record Beside (b b' : Board) : Type 0 where
  pub first : (queue_of b').first ≡ (queue_of b).first
  pub left : (queue_of b').left ≡ (queue_of b).left
  pub remembered : (queue_of b').remembered ≡ (queue_of b).remembered
  pub still-runs : runs (queue_of b') ≡ true
  pub size : length b' ≡ length b

-- 02, M-100, 3: n ms, each with what was done before it and the row as it then was
unfoldable pub meddled : (ℕ → List Pulse) → (ℕ → Board → Board) → ℕ → Board → Board
meddled row does zero b = b
meddled row does (suc n) b = tick (row n) (does n (meddled row does n b))

-- the board in the ms behind those, when clock and usage have grown and no pulse has ended yet
abbrev pub in_last : (ℕ → List Pulse) → (ℕ → Board → Board) → ℕ → Board → Board
in_last row does n b = passed 1 (does n (meddled row does n b))
