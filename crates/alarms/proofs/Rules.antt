-- The two rules of the count alarms beside one another.
use mathlib.Core.Path.{◌≡◌}
use Prim.Native.Nat.{ℕ, ◌+◌}
use native.Mathlib.Omega.{arith}
use lib.Dec.{leb}
use borrow.Author.Tests.{leb-true, leb-false, lt-ltb, le-ltb}
use Rattle.laws.proofs.Tests.{by_cases}
use Rattle.alarms.specs.Alarms.{alarm_above, alarm_at_or_above}

-- 02, M-101, 1 to 3: the read block's alarm is on exactly one fish before the Monitor message's
pub one-fish-earlier : (count setpoint : ℕ) → alarm_at_or_above count setpoint ≡ alarm_above (count + 1) setpoint
unfolding alarm_above alarm_at_or_above
one-fish-earlier count setpoint =
    by_cases (leb setpoint count)
    (λ t. let reached = leb-true setpoint count t in rw (t, lt-ltb setpoint (count + 1) (omega (arith, reached))))
    (λ f. let below = leb-false setpoint count f in rw (f, le-ltb setpoint (count + 1) (omega (arith, below))))
