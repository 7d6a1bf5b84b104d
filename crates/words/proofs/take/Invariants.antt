-- `words::take`: what is left of the field, behind the number so far, stands for what the field does.
use Rattle.std.proofs.Common.{◌≡◌, ◌^◌, ◌<◌, drop}
use Rattle.words.specs.Words.{value_from, value_of}
use Rattle.words.proofs.take.Given as goal

abbrev pub invariant-loop-byte : goal.invariant-loop-byte
invariant-loop-byte l = (l.number < 256 ^ l.byte-index) × (value_from l.number (drop l.byte-index l.field) ≡ value_of l.field)
