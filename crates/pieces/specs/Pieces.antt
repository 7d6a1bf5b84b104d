-- What a piece of bytes gives back, and what it leaves of the board, the half-read messages and the rooms: 01, Answer numbers.
use Rattle.numbers.specs.Numbers as numbers
use Rattle.std.specs.Prelude.{◌≡◌, true, cond, ◌||◌, List, ℕ, ◌≤◌, length}
use Rattle.std.proofs.Math.Option.{Option, none, some}
use Rattle.steps.specs.Cut.{Got}
use Rattle.steps.specs.Steps.{half_after}
use Rattle.framing.specs.Reading.{Run, run_of, got_of}
use Rattle.rows.specs.Places.{Board}
use Rattle.pulses.specs.Pulses.{short_row}
use Rattle.connections.specs.Lines.{is_open}
use Rattle.answers.specs.Calls.{Did, refused}
use Rattle.plain.specs.Events.{too_short}
use Rattle.serving.specs.Serving.{served_message}
use Rattle.halves.specs.Halves.{Halves, half_at, put_half}
use Rattle.halves.specs.Rooms.{room_at, put_room}
use Rattle.pieces.specs.Effects.{Effect, effect, still}

-- 01, Answer numbers, line 0: the answer to a piece: 0 where nothing ended, else that of the message that did
abbrev pub answered : ℕ → Option Got → Board → Did
answered c none p = refused numbers.waiting p
answered c (some g) p = served_message c g p

-- 01, Frame, 10: the bytes of a piece, as far as they are taken, at connection c's half-read message and room
abbrev pub fed : ℕ → List ℕ → Halves → List ℕ → Run
fed c piece hs rooms = run_of 0 (half_at c hs) (room_at c rooms) piece

-- a piece whose bytes were taken: the message that ended is served
abbrev pub fed_call : ℕ → Run → Board → Effect
fed_call c ρ b = effect (answered c (got_of ρ.room ρ.fed.outcome) b) ρ.fed.taken

-- what the code knows where it answers: the connection is open, the room has its 1,024 bytes, the reply buffer is long enough
pub record Ready (c : ℕ) (p : Board) (room reply : List ℕ) : Type 0 where
  pub is_open : is_open c p ≡ true
  pub whole_room : length room ≡ 1024
  pub long-enough : 4096 ≤ length reply

-- 01, Answer numbers, 1: 3 before 4, then by the bytes; 02, M-100, 5: 4 also for a row under 31; room is the reply buffer's length, records the
-- row's
abbrev pub judged : {A : Type 0} → ℕ → ℕ → ℕ → Board → A → A → A → A
judged c room records b shut short open' = cond (is_open c b) (cond (too_short room || short_row records) short open') shut

unfoldable pub bytes_call : ℕ → List ℕ → ℕ → ℕ → Board → Halves → List ℕ → Effect
bytes_call c piece room records b hs rooms =
    judged c room records b (still (refused numbers.no_connection b)) (still (refused numbers.short_buffer b)) (fed_call c (fed c piece hs rooms) b)

-- the half-read messages after it
unfoldable pub halves_after : ℕ → List ℕ → ℕ → ℕ → Board → Halves → List ℕ → Halves
halves_after c piece room records b hs rooms = judged c room records b hs hs (put_half c (half_after (fed c piece hs rooms).fed.outcome) hs)

-- the rooms after it
unfoldable pub rooms_after : ℕ → List ℕ → ℕ → ℕ → Board → Halves → List ℕ → List ℕ
rooms_after c piece room records b hs rooms = judged c room records b rooms rooms (put_room c (fed c piece hs rooms).room rooms)
