-- The bytes of the External Monitor message: 02, M-102, 5; 000, type 2.
use Rattle.std.specs.Prelude.{cond, List, [], ◌++◌, ℕ, ◌+◌, length}
use Rattle.laws.specs.Put.{rows}
use Rattle.words.specs.Words.{bytes_of}
use Rattle.rows.specs.Places.{Board, relay_at, clock_of}
use Rattle.modules.specs.Modules.{present, outputs}
use Rattle.writers.specs.Writers.{relay_row}

-- 02, M-102, 5: the type, how many inputs (000: none), how many outputs are present, their states, the clock
unfoldable pub external_reply : Board → List ℕ
external_reply t = bytes_of 1 2 ++ bytes_of 1 0 ++ bytes_of 1 (length (outputs t)) ++ rows (λ k. relay_row (relay_at k t)) (outputs t) ++ bytes_of 8 (clock_of t)

-- the state of relay k, or nothing where it is not there
abbrev pub present_state : Board → ℕ → List ℕ
present_state t k = cond (present k t) (relay_row (relay_at k t)) []

-- 02, M-102, 5: the bytes that it can need at most: those of eight outputs
abbrev pub external_room : ℕ
external_room = 1 + 1 + 1 + 8 + 8
