-- What is half read is kept in its words and found there again, whatever bytes came: demand 3's `reads`.
use mathlib.Core.Path.{◌≡◌, ap, ◌∙◌}
use mathlib.Core.List.{List, []}
use Prim.Native.Nat.{ℕ, ◌<◌}
use native.Mathlib.Omega.{arith}
use native.Mathlib.Nat.{mod-eq_of_lt}
use borrow.Author.Tests.{lt-ltb}
use lib.ListN.{length, get_or}
use lib.Seq.{get_or-set_same}
use Rattle.laws.proofs.Tests.{by_cases}
use Rattle.steps.specs.declared.Half.{Half}
use Rattle.steps.specs.Steps.{half_after}
use Rattle.framing.proofs.Fits.{Fits, run_fits}
use Rattle.rows.specs.Places.{is_connection}
use Rattle.halves.specs.Halves.{Halves, half_in, half_words, half_at, put_half}
use Rattle.pieces.specs.Pieces.{fed}
use Rattle.halves.specs.Rooms.{room_at}

-- where its numbers fit the words that are read
half-again : (h : Half) → Fits h → half_in (half_words h) ≡ h
half-again h f = rw (mod-eq_of_lt f.got, mod-eq_of_lt f.len, mod-eq_of_lt f.sum)

read_fits : (w : List ℕ) → Fits (half_in w)
read_fits w = record { got = omega arith; len = omega arith; sum = omega arith }

half-fits : (c : ℕ) (hs : Halves) → Fits (half_at c hs)
unfolding half_at
half-fits c hs = by_cases (is_connection c) (λ h. rw h (read_fits (get_or hs c [])))
    (λ h. rw h (record { got = omega arith; len = omega arith; sum = omega arith }))

pub reads : (c : ℕ) (piece : List ℕ) (hs : Halves) (rooms : List ℕ) → c < 4 → length hs ≡ 4
    → half_at c (put_half c (half_after (fed c piece hs rooms).fed.outcome) hs) ≡ half_after (fed c piece hs rooms).fed.outcome
unfolding half_at put_half
reads c piece hs rooms l e = found _ (run_fits piece 0 (half_at c hs) (room_at c rooms) (half-fits c hs))
  where
    found : (h : Half) → Fits h → half_at c (put_half c h hs) ≡ h
    found h f = rw (lt-ltb c 4 l) (ap half_in (get_or-set_same hs c (half_words h) [] (omega arith)) ∙ half-again h f)
