-- `hexadecimal::unpack`: of the whole pairs so many are read, and their bytes written.
use Rattle.std.proofs.Common.{◌≡◌}
use Rattle.std.specs.Slice.Iter.{chunks_exact_rest, chunks_exact_size}
use Rattle.std.specs.Iterator.Adapters.{enumerate_source, enumerate_count}
use Rattle.hexadecimal.proofs.Reading.{Unpacking}
use Rattle.hexadecimal.proofs.unpack.Given as goal

abbrev pub invariant-loop-place : goal.invariant-loop-place
invariant-loop-place l =
    (goal.iterator-loop-place).can_next l.place-iterator × (goal.iterator-loop-place).is_finite l.place-iterator
    × Unpacking l.line l.fn.out (chunks_exact_rest (enumerate_source l.place-iterator)) l.out (enumerate_count l.place-iterator)
    × (chunks_exact_size (enumerate_source l.place-iterator) ≡ 2)
