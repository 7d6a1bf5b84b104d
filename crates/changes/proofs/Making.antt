-- Calls that change nothing: refused, or served where it was so already. And a state that is what it was.
use mathlib.Core.Path.{◌≡◌, refl, ap}
use mathlib.Core.Bool.{Bool, true, false}
use Rattle.std.specs.Prelude.{Result, Ok, Err}
use Rattle.rows.specs.Places.{Board}
use Rattle.modules.specs.declared.Moved.{Moved}
use Rattle.modules.specs.Modules.{unmoved}
use Rattle.refusals.specs.declared.Refusal.{Refusal}
use Rattle.refusals.specs.declared.Refusal.TheVariants.{OutOfRange}
use Rattle.refusals.specs.Refusals.{answer_of}
use Rattle.changes.specs.Answers.{Makes, moved_of, served, refused, differ}

-- refused: the number is 11, and nothing moved
pub nothing : {b : Board} {r : Result Moved Refusal} → r ≡ Err OutOfRange → Makes (refused b) b r × (answer_of r ≡ 11) × (moved_of r ≡ unmoved)
nothing e = (record { leaves = refl; gives = e }, ap answer_of e, ap moved_of e)

-- served: the number is 1, and nothing moved
pub again : {b : Board} {r : Result Moved Refusal} → r ≡ Ok unmoved → Makes (served unmoved b) b r × (answer_of r ≡ 1) × (moved_of r ≡ unmoved)
again e = (record { leaves = refl; gives = e }, ap answer_of e, ap moved_of e)

pub differ_same : (b : Bool) → differ b b ≡ false
differ_same true = refl
differ_same false = refl
