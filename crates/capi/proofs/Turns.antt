-- A call of time in which no pulse ends: what `pulses::at_once` says, case by case.
use mathlib.Core.Path.{◌≡◌, refl}
use mathlib.Core.Bool.{Bool, true, false, cond, ◌||◌}
use mathlib.Core.List.{List}
use Prim.Native.Nat.{ℕ}
use lib.ListN.{length}
use Rattle.std.specs.Prelude.{Result, Ok, Err}
use Rattle.laws.proofs.Tests.{by_cases}
use Rattle.refusals.specs.declared.Refusal.{Refusal}
use Rattle.refusals.specs.declared.Refusal.TheVariants.{ShortBuffer}
use Rattle.rows.specs.Places.{Board, queue_of}
use Rattle.ring.specs.declared.Pulse.{Pulse}
use Rattle.pulses.specs.Pulses.{short_row, ends_within, waited}

-- refused, nothing done; a pulse ends, nothing done; none ends, and all ms have passed
abbrev pub AtOnce : List Pulse → ℕ → Board → Board → Result Bool Refusal → Type 0
AtOnce row d b z (Err refusal) = (short_row (length row) ≡ true) × (z ≡ b) × (refusal ≡ ShortBuffer)
AtOnce row d b z (Ok true) = z ≡ b
AtOnce row d b z (Ok false) = (short_row (length row) ≡ false) × (ends_within d (queue_of b) ≡ false) × (z ≡ waited d b)

pub at-once : (row : List Pulse) (d : ℕ) (b z : Board) (r : Result Bool Refusal)
    → z ≡ cond (short_row (length row) || ends_within d (queue_of b)) b (waited d b)
    → r ≡ cond (short_row (length row)) (Err ShortBuffer) (Ok (ends_within d (queue_of b))) → AtOnce row d b z r
at-once row d b z r z-is r-is =
    by_cases (short_row (length row))
    (λ s. let e = rw s at r-is in rw e (s, rw s at z-is, refl))
    (λ s. by_cases (ends_within d (queue_of b))
    (λ t. let e = rw (s, t) at r-is in rw e (rw (s, t) at z-is))
    (λ f. let e = rw (s, f) at r-is in rw e (s, f, rw (s, f) at z-is)))
