-- Contents that do not have their layout, as one table: the number and the place that the box gives, through its calls, and what 02, M-105, owes.
use Rattle.std.specs.Prelude.{List, [], ◌∷◌, ◌++◌, ℕ}
use Rattle.demand.specs.Demand.{Call}
use Rattle.register.specs.Box.{served, effect_of}
use Rattle.cases.specs.Starred.{sends, toggles, after, number, Row, row}

-- the place that one call more is answered with
abbrev pub place : List (Call served) → Call served → ℕ
place calls k = (effect_of (after calls) k).did.place

-- after these calls one more is answered with a number and a place
abbrev pub answers : List (Call served) → Call served → ℕ → ℕ → Row
answers calls k n at = row (number calls k ∷ place calls k ∷ []) (n ∷ at ∷ [])

-- the first message is answered so
abbrev pub broken : List ℕ → ℕ → ℕ → Row
broken content n at = answers [] (sends content) n at

-- request 4, with so much of an interval
abbrev pub turning_off : List ℕ → List ℕ
turning_off interval = 0x05 ∷ 0x00 ∷ 0x04 ∷ interval

-- 02, M-105, 1 and 2: contents that are fields alone: a byte too few, or one too many; the third of them is the console's third line (02, M-105, 3)
abbrev pub broken_fields : List Row
broken_fields =
    broken (turning_off (0 ∷ 0 ∷ 1 ∷ [])) 20 6 ∷ broken (turning_off (0 ∷ 0 ∷ 0 ∷ 1 ∷ 0 ∷ [])) 21 7 ∷
    broken (0x0A ∷ 0x03 ∷ 0x00 ∷ []) 20 3 ∷ broken (0x0A ∷ 0x03 ∷ 0x00 ∷ 0x01 ∷ 0 ∷ []) 21 4 ∷
    broken (0x07 ∷ 0 ∷ 0 ∷ 0 ∷ 0 ∷ 0 ∷ 0 ∷ 0 ∷ 1 ∷ 0 ∷ []) 21 9 ∷
    broken (0x0A ∷ 0x06 ∷ 0x00 ∷ 0x01 ∷ 0 ∷ 0 ∷ 0 ∷ []) 20 7 ∷ []

-- 02, M-105, 4: in type 26 both come before flags that are out of range; in type 10 an action that is comes before them
abbrev pub broken_first : List Row
broken_first =
    broken (0x1A ∷ []) 20 1 ∷ broken (0x1A ∷ 0x00 ∷ 0x00 ∷ []) 21 2 ∷ broken (0x0A ∷ 0x04 ∷ 0x00 ∷ []) 11 0 ∷ []

-- input 1's ID; and an entry of WriteDevices that clears its count
abbrev pub input_one : List ℕ
input_one = 0 ∷ 0 ∷ 0 ∷ 0 ∷ 0 ∷ 0 ∷ 0x01 ∷ 0xFF ∷ []

abbrev pub clearing : List ℕ
clearing = input_one ++ (0x00 ∷ 0x01 ∷ 0x01 ∷ [])

-- 02, M-105, 1 and 2: contents with a list: of ReadDevices the count is cut; no byte of its IDs is there; one and a half of two are; a byte is
-- behind none
abbrev pub broken_read : List Row
broken_read =
    broken (0x15 ∷ 0x00 ∷ []) 20 2 ∷ broken (0x15 ∷ 0x00 ∷ 0x02 ∷ []) 22 3 ∷
    broken (0x15 ∷ 0x00 ∷ 0x02 ∷ input_one ++ (0 ∷ 0 ∷ 0 ∷ 0 ∷ [])) 22 15 ∷ broken (0x15 ∷ 0x00 ∷ 0x00 ∷ 0 ∷ []) 21 3 ∷ []

-- 02, M-105, 1 and 2: of WriteDevices the second entry is cut in its length, and in its block; a byte is behind the last
abbrev pub broken_write : List Row
broken_write =
    broken (0x17 ∷ 0x00 ∷ 0x02 ∷ clearing ++ input_one ++ (0x00 ∷ [])) 22 23 ∷
    broken (0x17 ∷ 0x00 ∷ 0x02 ∷ clearing ++ input_one ++ (0x00 ∷ 0x05 ∷ 0x02 ∷ 0 ∷ [])) 22 26 ∷
    broken (0x17 ∷ 0x00 ∷ 0x01 ∷ clearing ++ (0 ∷ [])) 21 14 ∷ []

-- 02, M-105, 2: behind a refusal with a place another answer has none
abbrev pub place_gone : List Row
place_gone =
    answers (sends (0x1A ∷ []) ∷ []) (toggles 8) 1 0 ∷ answers (sends (0x1A ∷ []) ∷ []) (toggles 9) 11 0 ∷ []

-- all of them; what is named here is computed by itself
unfoldable pub field_cases : List Row
field_cases = broken_fields ++ broken_first ++ place_gone

unfoldable pub list_cases : List Row
list_cases = broken_read ++ broken_write

abbrev pub broken_cases : List Row
broken_cases = field_cases ++ list_cases
