-- `orders::entries_length`: the bytes so far and those of the entries that are left are the bytes of all.
use mathlib.Core.Path.{◌≡◌}
use Prim.Native.Nat.{◌+◌, ◌-◌, ◌≤◌}
use lib.ListN.{length as List·length}
use Rattle.orders.specs.Entries.{entries_length}
use Rattle.orders.proofs.entries_length.Given as goal

abbrev pub invariant-loop-entry : goal.invariant-loop-entry
invariant-loop-entry l =
    (l.length ≤ List·length l.content) ×
    (l.length + entries_length (l.count - l._entry) l.content (3 + l.length) ≡ entries_length l.count l.content 3)
