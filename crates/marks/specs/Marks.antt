-- The due marks of the connections: 01, Events, 3 and 6; 02, M-102, 4 and 6.
use Rattle.std.specs.Prelude.{Bool, cond, ◌&&◌, ◌||◌, List, ℕ, leb, set}
use Rattle.records.specs.declared.Line.{Line}
use Rattle.records.specs.Records.{line_in, due_words, external_word}
use Rattle.rows.specs.Places.{Board, on_rows, first_line}
use Rattle.modules.specs.declared.Moved.{Moved}
use Rattle.modules.specs.Modules.{has_module}

-- 01, What the box holds, 4, and 02, M-102, 4, and M-103, 2: a connection by its parts; external is its mark for the External Monitor message
abbrev pub line_of : Bool → ℕ → Bool → Bool → ℕ → Bool → Line
line_of is_open rank monitor due strict external =
    record { is_open = is_open; rank = rank; monitor = monitor; due = due; strict = strict; external = external }

-- 01, Events, 3: user and administrator, the ranks that Monitor is due to
abbrev pub has_rank : ℕ → Bool
has_rank rank = leb 1 rank && leb rank 2

-- a connection with each of its marks set or cleared
abbrev pub with_marks : Bool → Bool → Line → Line
with_marks due external l = line_of l.is_open l.rank l.monitor due l.strict external

-- a connection with Monitor on or off
abbrev pub with_monitor : Bool → Line → Line
with_monitor on l = line_of l.is_open l.rank on l.due l.strict l.external

-- 01, Events, 6: a connection that a change is due to: it is open, has one of these ranks, and Monitor is on
abbrev pub watches : Line → Bool
watches l = l.is_open && (has_rank l.rank && l.monitor)

-- its row with the marks; another keeps every word
unfoldable pub marked_row : Bool → Bool → List ℕ → List ℕ
marked_row due external row = cond (watches (line_in row)) (due_words due external row) row

-- 01, Events, 6: something really changed
abbrev pub any_moved : Moved → Bool
any_moved m = m.inner || m.outer

-- 01, Events, 6: where something really changed, the marks follow on all of these, also on the one whose message it was
-- 02, M-102, 4 and 6: of the Monitor message for a change on the first deck; of the External one for any change while a module is present
unfoldable pub marked : Moved → Board → Board
marked moved b = cond (any_moved moved) (on_rows first_line 4 (λ _. marked_row moved.inner (has_module b)) b) b

-- 02, M-102, 4: every mark of the External Monitor message is cleared; no other word changes
unfoldable pub external_cleared : Board → Board
external_cleared b = on_rows first_line 4 (λ _ row. set row external_word 0) b
