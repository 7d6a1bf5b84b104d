-- What a layout comes to in a content of n bytes. It decides nothing: only theorems are stated with it.
use Rattle.std.specs.Prelude.{ℕ, ◌<◌, Result, Ok, Err}
use Rattle.refusals.specs.declared.Refusal.{Refusal}
use Rattle.refusals.specs.declared.Refusal.TheVariants.{EndsEarly, LeftOver, ListCut}

-- 02, M-105, 1 and 2: the content is its layout; or it ends too early, in a list or not, and the place is its length; or the layout ended before it,
-- and the place is there
pub data Outcome (n : ℕ) : Result ℕ Refusal → Type 0 where
  whole : Outcome n (Ok n)
  early : Outcome n (Err (EndsEarly n))
  surplus : {at : ℕ} → at < n → Outcome n (Err (LeftOver at))
  in_list : Outcome n (Err (ListCut n))
