-- The queue as 02 speaks of it, a list from which the first is taken; the ring of the crate pulses stands for it. Document 02, M-100.
use Rattle.std.specs.Prelude.{◌≡◌, Bool, true, cond, List, [], ◌∷◌, ◌++◌, ℕ, zero, suc, ◌-◌, ◌<◌, ◌^◌, leb, length}
use Rattle.records.specs.declared.Queue.{Queue}
use Rattle.records.specs.declared.Line.{Line}
use Rattle.rows.specs.Places.{Board, relay_at, queue_of, left_set}
use Rattle.modules.specs.Modules.{has_module}
use Rattle.tables.specs.Time.{passed}
use Rattle.changes.specs.Answers.{differ}
use Rattle.ring.specs.declared.Pulse.{Pulse}
use Rattle.pulses.specs.Pulses.{begun, ended, accepted}
use Rattle.ring.specs.Ring.{pulse_at, standing, is_full, place}

-- the board, and the pulses that stand, the running one first
pub record Listed : Type 0 where
  pub board : Board
  pub waits : List Pulse

abbrev pub list_of : Board → List Pulse → Listed
list_of b ps = record { board = b; waits = ps }

-- 02, M-100, 5: the n pulses of a row from the k-th behind the first on
unfoldable pub ranked : List Pulse → Queue → ℕ → ℕ → List Pulse
ranked row q k zero = []
ranked row q k (suc n) = pulse_at row (place q k) ∷ ranked row q (suc k) n

-- 02, M-100, 2 and 5: those that stand, by their rank
abbrev pub waiting : List Pulse → Board → List Pulse
waiting row b = ranked row (queue_of b) 0 (standing (queue_of b))

-- what a board and its row stand for
abbrev pub list_in : List Pulse → Board → Listed
list_in row b = list_of b (waiting row b)

-- 02, M-100, 2: the first of those that are left begins, if there is one
unfoldable pub started : Board → List Pulse → Listed
started b [] = list_of b []
started b (p ∷ ps) = list_of (begun p b) (p ∷ ps)

-- 02, M-100, 4: one ms: first it passes for clock and usage; then the first, where it has no more than this ms, ends and is taken off
unfoldable pub elapsing : Board → List Pulse → Listed
elapsing b [] = list_of (passed 1 b) []
elapsing b (p ∷ ps) =
    let after : Board = passed 1 b in
    cond (leb (queue_of b).left 1) (started (ended p after) ps) (list_of (left_set ((queue_of b).left - 1) after) (p ∷ ps))

abbrev pub elapse : Listed → Listed
elapse l = elapsing l.board l.waits

-- 02, M-100, 5 and 7: a request goes behind the last; where 31 stand it changes nothing
unfoldable pub join : Pulse → Listed → Listed
join p l = cond (leb 31 (length l.waits)) l (list_of (accepted p l.board) (l.waits ++ (p ∷ [])))

-- 02, M-100, 7: the board after a request, as `pulses::push` leaves it
abbrev pub pushed : Pulse → Board → Board
pushed p b = cond (is_full (queue_of b)) b (accepted p b)

-- 02, M-100, 1: the numbers of a pulse fit the fields of its record
pub record Fits (p : Pulse) : Type 0 where
  pub mask : p.mask < 2 ^ 16
  pub states : p.states < 2 ^ 16
  pub duration : p.duration < 2 ^ 32

-- 02, M-100, 3: relay k has another state in one board than in the other: a change that is a real one
abbrev pub moved : ℕ → Board → Board → Bool
moved k b b' = differ (relay_at k b).closed (relay_at k b').closed

-- 02, M-100, 3, and M-102, 4 and 6: a connection has been told of a change of the relay at place k: of one on the first deck by the Monitor
-- message's mark, and, a module being present, of any by the External one's
pub record Told (k : ℕ) (b : Board) (l : Line) : Type 0 where
  pub monitor : k < 8 → l.due ≡ true
  pub external : has_module b ≡ true → l.external ≡ true
