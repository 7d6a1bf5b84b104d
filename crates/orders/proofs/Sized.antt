-- An order whose layout is fields of the content's length.
use mathlib.Core.Path.{◌≡◌, sym, ap}
use Prim.Native.Nat.{ℕ}
use Rattle.std.specs.Prelude.{Result}
use Rattle.refusals.specs.declared.Refusal.{Refusal}
use Rattle.layouts.proofs.Layouts.{fields-whole}
use Rattle.orders.specs.Judges.{of_reach, if_sized}

pub sized-whole : {A : Type 0} (n size : ℕ) (order : Result A Refusal) → n ≡ size → order ≡ if_sized n size order
unfolding if_sized of_reach
sized-whole n size order e = rw (← e) (sym (ap (λ (r : Result ℕ Refusal). of_reach r order) (fields-whole n)))
