-- How long the External Monitor message is.
--     external-is       11 bytes and one for each present output: 15 or 19;   length-external   at most its room
use mathlib.Core.Path.{◌≡◌, refl, ◌∙◌}
use Prim.Native.Nat.{ℕ, ◌+◌, ◌≤◌}
use native.Mathlib.Nat.{mul-one}
use native.Mathlib.Omega.{arith}
use lib.Dec.{lit≤}
use lib.ListN.{length, length-append}
use Rattle.laws.specs.Put.{rows}
use Rattle.laws.proofs.Rows.{length-rows}
use Rattle.laws.proofs.Tests.{by_cases}
use Rattle.rows.specs.Places.{Board, relay_at}
use Rattle.modules.specs.Modules.{present, outputs}
use Rattle.modules.proofs.Outputs.{outputs-few}
use Rattle.writers.specs.Writers.{relay_row}
use Rattle.external.specs.External.{external_reply, external_room, present_state}

-- the state of a relay, or nothing
pub state-short : (t : Board) (k : ℕ) → length (present_state t k) ≤ 1
state-short t k = by_cases (present k t) (λ y. rw y (lit≤ tt)) (λ n. rw n (lit≤ tt))

pub external-states : (t : Board) → length (rows (λ k. relay_row (relay_at k t)) (outputs t)) ≡ length (outputs t)
external-states t = length-rows (λ k. relay_row (relay_at k t)) 1 (outputs t) (λ k. refl) ∙ mul-one (length (outputs t))

pub external-is : (t : Board) → length (external_reply t) ≡ 11 + length (outputs t)
unfolding external_reply
external-is t = simp length-append (omega (arith, external-states t))

pub length-external : (t : Board) → length (external_reply t) ≤ external_room
length-external t = omega (arith, external-is t, outputs-few t)
