-- `copying::copy`: what is still to be copied gives, behind what is there, what all of it gives.
use Rattle.std.proofs.Common.{◌≡◌, ◌+◌, length, drop}
use Rattle.laws.specs.Put.{put}
use Rattle.copying.proofs.copy.Given as goal

abbrev pub invariant-loop-rest : goal.invariant-loop-rest
invariant-loop-rest l = record {
  place : l.to + length l.rest ≡ l.at + length l.src;
  bytes : put l.to l.rest l.out ≡ put l.at l.src l.fn.out;
}

abbrev pub decreases-loop-rest : goal.decreases-loop-rest
decreases-loop-rest l = length l.rest

abbrev pub invariant-loop-byte : goal.invariant-loop-byte
invariant-loop-byte l = record {
  place : l.to + length (drop l.byte-index l.byte-items) ≡ l.at + length l.src;
  bytes : put l.to (drop l.byte-index l.byte-items) l.out ≡ put l.at l.src l.fn.out;
}
