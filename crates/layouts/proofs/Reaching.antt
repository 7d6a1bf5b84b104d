-- One part of a layout: so many bytes further, there or not; and its end.
use mathlib.Core.Path.{◌≡◌}
use Prim.Native.Nat.{ℕ, ◌+◌, ◌≤◌, ◌<◌}
use native.Mathlib.Nat.{le_refl}
use borrow.Author.Tests.{le-leb, lt-leb, lt-ltb, le-ltb}
use Rattle.layouts.specs.Layouts.{onward, finished}
use Rattle.std.specs.Prelude.{Ok, Err}
use Rattle.refusals.specs.declared.Refusal.{Refusal}
use Rattle.refusals.specs.declared.Refusal.TheVariants.{LeftOver}

pub onward-there : (refusal : ℕ → Refusal) (n size at : ℕ) → at + size ≤ n → onward refusal n size (Ok at) ≡ Ok (at + size)
unfolding onward
onward-there refusal n size at h = rw (le-leb (at + size) n h)

pub onward-cut : (refusal : ℕ → Refusal) (n size at : ℕ) → n < at + size → onward refusal n size (Ok at) ≡ Err (refusal n)
unfolding onward
onward-cut refusal n size at h = rw (lt-leb (at + size) n h)

-- and its end, with bytes behind it or at the content's own
pub finished-over : (n at : ℕ) → at < n → finished n (Ok at) ≡ Err (LeftOver at)
unfolding finished
finished-over n at h = rw (lt-ltb at n h)

pub finished-there : (n : ℕ) → finished n (Ok n) ≡ Ok n
unfolding finished
finished-there n = rw (le-ltb n n (le_refl n))
