-- `words::put`: behind the place that was stored last stand the low bytes of v, and rest is v without them.
use Rattle.std.proofs.Common.{◌-◌, ◌≡◌, ◌+◌, ◌/◌, ◌^◌, ◌≤◌}
use Rattle.laws.specs.Put.{put}
use Rattle.words.specs.Words.{bytes_of}
use Rattle.words.proofs.put.Given as goal

abbrev pub invariant-loop-place : goal.invariant-loop-place
invariant-loop-place l = (l.at ≤ l.place) × (l.rest ≡ l.v / 256 ^ (l.at + l.k - l.place)) × (l.out ≡ put l.place (bytes_of (l.at + l.k - l.place) l.v) l.fn.out)
