-- The second deck's places are filled and emptied. Document 02, M-102.
use Rattle.std.specs.Prelude.{true, false, cond, not, ◌&&◌, List, ℕ, zero, suc, ◌+◌, ◌*◌, ◌/◌, ◌%◌, ◌^◌, eqb, length, set, Result, Ok, Err, is_ok}
use Rattle.records.specs.declared.Queue.{Queue}
use Rattle.rows.specs.Places.{Board, queue_of}
use Rattle.modules.specs.Modules.{is_place, filled, place_set, has_module}
use Rattle.changes.specs.Answers.{Change, moved_of}
use Rattle.blocks.specs.Blocks.{block_of}
use Rattle.marks.specs.Marks.{marked, external_cleared}
use Rattle.ring.specs.declared.Pulse.{Pulse}
use Rattle.ring.specs.Ring.{pulse_of, pulse_at, standing, place}
use Rattle.pulses.specs.Pulses.{short_row}
use Rattle.refusals.specs.declared.Refusal.{Refusal}
use Rattle.refusals.specs.declared.Refusal.TheVariants.{ShortBuffer, OutOfRange}
use Rattle.refusals.specs.Refusals.{answer_of}
use Rattle.answers.specs.Calls.{Did, concluded}

-- 02, M-102, 1: the relays of a place's module as a mask, the lowest bit relay 1: 9 to 12 are place one's, 13 to 16 place two's
abbrev pub module_mask : ℕ → ℕ
module_mask p = cond (eqb p 1) 0x0F00 0xF000

-- 02, M-102, 8: all relays of the module are open; whether that was a change
abbrev pub opened : ℕ → Board → Change
opened p b = block_of (module_mask p) 0 b

-- 02, M-102, 1 and 8: a module comes to a place, with its relays open, and marks nothing; where one stands nothing changes
unfoldable pub filled_at : ℕ → Board → Board
filled_at p b = cond (filled p b) b (place_set p true (opened p b).board)

-- 02, M-102, 4: where no module is left every mark of the External Monitor message is cleared
unfoldable pub last_gone : Board → Board
last_gone b = cond (has_module b) b (external_cleared b)

-- 02, M-102, 1, 4 and 8: a module leaves a place: its relays open, and if one was closed that is a change like any other; where none stands
-- nothing changes
unfoldable pub emptied_at : ℕ → Board → Board
emptied_at p b =
    let m : Change = opened p b in
    cond (filled p b) (last_gone (marked (moved_of m.outcome) (place_set p false m.board))) b

-- 02, M-102, 12: refused for a row under 31 records, then for another place
abbrev pub place_judged : ℕ → ℕ → Result Unit Refusal
place_judged records p = cond (short_row records) (Err ShortBuffer) (cond (is_place p) (Ok tt) (Err OutOfRange))

-- 02, M-102, 12: 4 for such a row, 11 for such a place, else 1
abbrev pub place_answer : ℕ → ℕ → ℕ
place_answer records p = answer_of (place_judged records p)

-- a place becomes what f makes of it, where nothing refuses the call; no reply
abbrev pub on_place : (ℕ → Board → Board) → ℕ → ℕ → Board → Did
on_place f records p b = concluded (place_judged records p) (cond (is_ok (place_judged records p)) (f p b) b)

-- 02, M-102, 1 and 12: a place is filled, or emptied
unfoldable pub place_filled : ℕ → ℕ → Board → Did
place_filled records p b = on_place filled_at records p b

unfoldable pub place_emptied : ℕ → ℕ → Board → Did
place_emptied records p b = on_place emptied_at records p b

-- 02, M-102, 8: a mask without the module's bits: place one has bits 8 to 11, place two those from bit 12 on
unfoldable pub without : ℕ → ℕ → ℕ
without p mask = cond (eqb p 1) (mask % 2 ^ 8 + mask / 2 ^ 12 * 2 ^ 12) (mask % 2 ^ 12)

-- 02, M-102, 8: a pulse loses the module's relays from its mask; it keeps its states and its time
abbrev pub lost : ℕ → Pulse → Pulse
lost p pulse = pulse_of (without p pulse.mask) pulse.states pulse.duration

-- 02, M-102, 8: how many pulses lose them: all that stand, the running one among them, where a module leaves; else none
unfoldable pub losing : ℕ → ℕ → Board → ℕ
losing records p b = cond (not (short_row records) && filled p b) (standing (queue_of b)) 0

-- 02, M-102, 8: of a row of pulses the first n in the queue's order lose them; every other record stays
unfoldable pub row_without : ℕ → Queue → ℕ → List Pulse → List Pulse
row_without p q zero row = row
row_without p q (suc n) row = set (row_without p q n row) (place q n) (lost p (pulse_at (row_without p q n row) (place q n)))

-- 02, M-102, 8: the row after an emptying
abbrev pub row_emptied : ℕ → Board → List Pulse → List Pulse
row_emptied p b row = row_without p (queue_of b) (losing (length row) p b) row
