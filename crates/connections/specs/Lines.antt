-- The connections, without their half-read messages: which are open, which of them are strict, and opening and closing
-- one: 01, What the box holds, 4, and Events, 3 and 4; 02, M-103, 2.
use Rattle.numbers.specs.Numbers as numbers
use Rattle.std.specs.Prelude.{Bool, true, cond, ◌&&◌, [], ℕ, ltb}
use Rattle.records.specs.declared.Line.{Line}
use Rattle.records.specs.Records.{is_on, shut_line}
use Rattle.rows.specs.Places.{Board, is_connection, line_at, put_line}
use Rattle.modules.specs.Modules.{has_module}
use Rattle.marks.specs.Marks.{line_of, has_rank}
use Rattle.answers.specs.Calls.{Did, did, refused}

-- 01, Events, 3, and 02, M-103, 2: what an opening at a rank, which says whether it is strict, makes of a connection
-- 02, M-102, 4: where a module is present then, the External Monitor message is due as the Monitor message is
unfoldable pub opened_line : ℕ → ℕ → Bool → Line
opened_line rank strict present = line_of true rank true (has_rank rank) strict (has_rank rank && present)

-- 01, Answer numbers, line 3: whether c is open; a number that is no connection's reads as shut
abbrev pub is_open : ℕ → Board → Bool
is_open c b = (line_at c b).is_open

-- 02, M-103, 2: whether c is strict: it is unless its opening said 0; a number that is no connection's reads as shut, and so as not strict
abbrev pub is_strict : ℕ → Board → Bool
is_strict c b = is_on (line_at c b).strict

-- 01, Events, 3, and Answer numbers, lines 3, 12 and 13: an opening: first the number is judged, then whether it is open, then the rank
-- 02, M-103, 2: it says whether the connection is strict
unfoldable pub connected : ℕ → ℕ → ℕ → Board → Did
connected c rank strict p =
    cond (is_connection c)
    (cond (is_open c p) (refused numbers.already_open p)
    (cond (ltb 2 rank) (refused numbers.bad_rank p)
    (did (put_line c (opened_line rank strict (has_module p)) p) numbers.served [])))
    (refused numbers.no_connection p)

-- 01, Events, 4: a closing: everything of the connection becomes 0
unfoldable pub closed : ℕ → Board → Did
closed c p = cond (is_open c p) (did (put_line c shut_line p) numbers.served []) (refused numbers.no_connection p)
