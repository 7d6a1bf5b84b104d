-- The second deck: its places, the relays that are there, and on which deck a change fell. Document 02, M-102.
use Rattle.std.specs.Prelude.{Bool, true, false, cond, not, ◌&&◌, ◌||◌, List, [], ◌∷◌, ℕ, ◌+◌, ◌-◌, leb, set}
use Rattle.records.specs.Records.{word, is_on, flagged}
use Rattle.rows.specs.Places.{Board, is_channel, row_at, first_place}
use Rattle.modules.specs.declared.Moved.{Moved}

-- 02, M-102, 1: there are two places, one and two
abbrev pub is_place : ℕ → Bool
is_place p = leb 1 p && leb p 2

-- the row of place p, and the word in it that says what stands there: 0 for nothing, else a module of relays
abbrev pub place_row : ℕ → ℕ
place_row p = p - 1 + first_place

abbrev pub filled_word : ℕ
filled_word = 0

-- 02, M-102, 1: a module stands at place p; a number that is no place's reads as empty
unfoldable pub filled : ℕ → Board → Bool
filled p b = is_place p && is_on (word filled_word (row_at (place_row p) b))

-- 02, M-102, 1: the board with a module at place p, or with none; a store to a number that is no place's does nothing
unfoldable pub place_set : ℕ → Bool → Board → Board
place_set p holds b = cond (is_place p) (set b (place_row p) (set (row_at (place_row p) b) filled_word (flagged holds))) b

-- 02, M-102, 1, 2 and 12: relay k is there: 1 to 8 always, 9 to 12 with a module at place one, 13 to 16 with one at place two
unfoldable pub present : ℕ → Board → Bool
present k b = cond (is_channel k) true (cond (leb 9 k && leb k 12) (filled 1 b) (cond (leb 13 k && leb k 16) (filled 2 b) false))

-- 02, M-102, 4: a module is present
abbrev pub has_module : Board → Bool
has_module b = filled 1 b || filled 2 b

-- 02, M-102, 5: the relays of the second deck, rising
abbrev pub second_deck : List ℕ
second_deck = 9 ∷ 10 ∷ 11 ∷ 12 ∷ 13 ∷ 14 ∷ 15 ∷ 16 ∷ []

-- those of a list that are there
unfoldable pub present_of : Board → List ℕ → List ℕ
present_of b [] = []
present_of b (k ∷ ks) = cond (present k b) (k ∷ present_of b ks) (present_of b ks)

-- 02, M-102, 5: the present outputs, rising
abbrev pub outputs : Board → List ℕ
outputs b = present_of b second_deck

-- 02, M-102, 4 and 6: nothing really changed; something of the first deck did, an input's level or one of relays 1 to 8
abbrev pub unmoved : Moved
unmoved = record { inner = false; outer = false }

abbrev pub inner_moved : Bool → Moved
inner_moved moved = record { inner = moved; outer = false }

-- 02, M-102, 4 and 6: relay k moved, if it did, on the first deck or on the second
unfoldable pub moved_at : ℕ → Bool → Moved
moved_at k moved = record { inner = is_channel k && moved; outer = not (is_channel k) && moved }
