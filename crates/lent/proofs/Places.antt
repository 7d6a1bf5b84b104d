-- Past a row's end: no pulse stands there, and nothing is stored there.
use mathlib.Core.Path.{◌≡◌, refl}
use mathlib.Core.List.{List, [], ◌∷◌}
use Prim.Native.Nat.{ℕ, zero, suc, ◌≤◌}
use native.Mathlib.Nat.{not-suc-le-zero, le_of_suc-le-suc}
use lib.ListN.{length, set}
use Rattle.ring.specs.declared.Pulse.{Pulse}
use Rattle.ring.specs.Ring.{pulse_of, pulse_at}

-- what stands for a record that is not there
abbrev pub no_pulse : Pulse
no_pulse = pulse_of 0 0 0

pub at-past : (row : List Pulse) (i : ℕ) → length row ≤ i → pulse_at row i ≡ no_pulse
at-past [] i h = refl
at-past (x ∷ row) zero h = absurd (not-suc-le-zero h)
at-past (x ∷ row) (suc i) h = at-past row i (le_of_suc-le-suc h)

pub set_past : (row : List Pulse) (i : ℕ) (p : Pulse) → length row ≤ i → set row i p ≡ row
set_past [] i p h = refl
set_past (x ∷ row) zero p h = absurd (not-suc-le-zero h)
set_past (x ∷ row) (suc i) p h = rw (set_past row i p (le_of_suc-le-suc h)) refl
