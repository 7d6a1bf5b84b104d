-- What a writer does: 01, Forms, 7.
use Rattle.std.specs.Prelude.{◌≡◌, List, ℕ, ◌+◌, min, length}
use Rattle.laws.specs.Put.{put}
use Rattle.writers.specs.declared.Writer.{Writer}

-- 01, Forms, 7: vs is written on behind what was written before, as far as the lent bytes go; every other byte is as it was
pub record Wrote (vs : List ℕ) (w₀ w : Writer) : Type 0 where
  pub same : w.out.ghost_name ≡ w₀.out.ghost_name
  pub bytes : w.out.now ≡ put w₀.at vs w₀.out.now
  pub place : w.at ≡ min (w₀.at + length vs) (length w₀.out.now)
