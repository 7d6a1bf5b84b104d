-- Fields off the front of a content, by a reader: 01, Messages, 2. A reader is a lent content and the place behind what is taken off its front.
use Rattle.std.specs.Prelude.{cond, List, [], ◌∷◌, ℕ, ◌+◌, leb, min, length, Result, Ok, Err}
use Rattle.refusals.specs.declared.Refusal.{Refusal}
use Rattle.refusals.specs.declared.Refusal.TheVariants.{EndsEarly, ListCut}
use Rattle.words.specs.Words.{number_at}
use Rattle.layouts.specs.Layouts.{onward, optionally, finished}

-- 01, Messages, 2: the place `by` bytes on from `at`, or the content's end where that comes first
abbrev pub onward_of : List ℕ → ℕ → ℕ → ℕ
onward_of content at by = min (at + by) (length content)

-- 01, Messages, 2: what is taken off the front is behind the reader, which never stands past the content's end
abbrev pub past : ℕ → List ℕ × ℕ → List ℕ × ℕ
past n (content, at) = (content, cond (leb (at + n) (length content)) (at + n) (length content))

-- what a reader gives where its layout comes to a place, and the refusal where it breaks
abbrev pub reached : {A : Type 0} → Result ℕ Refusal → A → Result A Refusal
reached (Ok at) value = Ok value
reached (Err refusal) value = Err refusal

-- 01, Messages, 2: the place of the next n bytes
abbrev pub place_off : ℕ → List ℕ × ℕ → Result ℕ Refusal
place_off n (content, at) = reached (onward EndsEarly (length content) n (Ok at)) at

-- 01, Messages, 2: a field of n bytes off the front: its number
abbrev pub field_off : ℕ → List ℕ × ℕ → Result ℕ Refusal
field_off n (content, at) = reached (onward EndsEarly (length content) n (Ok at)) (number_at content at n)

-- 02, M-105, 1: the entries of a list, of n bytes in all
abbrev pub list_off : ℕ → List ℕ × ℕ → Result Unit Refusal
list_off n (content, at) = reached (onward ListCut (length content) n (Ok at)) tt

-- 01, Messages, 5, 1: fields that may be left out together
abbrev pub option_off : ℕ → List ℕ × ℕ → Result Unit Refusal
option_off n (content, at) = reached (optionally (length content) n (Ok at)) tt

-- 01, Messages, 2: nothing is left over
abbrev pub ended : List ℕ × ℕ → Result Unit Refusal
ended (content, at) = reached (finished (length content) (Ok at)) tt

-- the numbers of fields of so many bytes each that stand one behind the other from `at` on; only theorems are stated with it
abbrev pub fields_of : List ℕ → ℕ → List ℕ → List ℕ
fields_of content at [] = []
fields_of content at (n ∷ widths) = number_at content at n ∷ fields_of content (at + n) widths
