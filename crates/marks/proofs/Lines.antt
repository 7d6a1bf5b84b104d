-- A connection that is marked, as its row.
use mathlib.Core.Path.{◌≡◌, refl, sym, ◌∙◌}
use mathlib.Core.Bool.{Bool, true, false, cond}
use mathlib.Core.List.{[]}
use Prim.Native.Nat.{ℕ, ◌<◌}
use borrow.Author.Tests.{lt-ltb}
use lib.ListN.{set}
use lib.Seq.{set-get_or}
use Rattle.records.specs.Records.{line_in, due_words}
use Rattle.rows.specs.Places.{Board, row_at, line_at, due_set, line_place}
use Rattle.marks.specs.Marks.{watches, marked_row}

pub marked-row : (due external : Bool) (c : ℕ) (b b' : Board) → c < 4 → b' ≡ cond (watches (line_at c b)) (due_set c due external b) b
    → b' ≡ set b (line_place c) (marked_row due external (row_at (line_place c) b))
unfolding line_at due_set marked_row
marked-row due external c b b' h e = e ∙ rw (lt-ltb c 4 h) (go (watches (line_in (row_at (line_place c) b))))
  where
    go : (t : Bool) → cond t (set b (line_place c) (due_words due external (row_at (line_place c) b))) b
        ≡ set b (line_place c) (cond t (due_words due external (row_at (line_place c) b)) (row_at (line_place c) b))
    go true = refl
    go false = sym (set-get_or b (line_place c) [])
