-- `writes::apply`: what the entries that are left do to what is done so far is what all of them do to the tables.
use mathlib.Core.Path.{◌≡◌}
use Prim.Native.Nat.{◌-◌, ◌≤◌}
use Rattle.writes.specs.Writes.{so_far, written_from, written_of}
use Rattle.writes.proofs.apply.Given as goal

abbrev pub invariant-loop : goal.invariant-loop
invariant-loop l =
    (written_from l.content l.at (l.count - l.counter) (so_far l.board l.so_far.written l.so_far.changed) ≡ written_of l.content l.count l.initial.board)
    × (l.so_far.written ≤ l.counter)
