-- `writes::apply`: what the entries that are left do to what is done so far is what all of them do to the tables.
use mathlib.Core.Path.{sym, ap, ◌∙◌}
use mathlib.Core.Bool.{false}
use Prim.Native.Nat.{ℕ}
use native.Mathlib.Omega.{arith}
use Rattle.writes.specs.declared.Written.{Written}
use Rattle.writes.specs.Writes.{Entered, so_far, written_from}
use Rattle.writes.proofs.Turns.{one_more, entry-turn, entries-end}
use Rattle.writes.proofs.apply.Goals as goal

pub loop-init : goal.loop-init
loop-init c = let a = c.args in (ap (λ (n : ℕ). written_from a.content.now 3 n (so_far a.board.now 0 false)) (omega arith), omega arith)

pub note-requires : goal.note-requires
note-requires c = omega (arith, c.loop.invariant.1, c.loop-test.true, c.ranges.count)

pub loop-preserved : goal.loop-preserved
loop-preserved c = let l = c.loop in (
  rw (c.note.ensures, c.write_entry.ensures.leaves, c.write_entry.ensures.gives, c.entry_at-entry.ensures)
      (sym (entry-turn _ l.at _ l.counter (so_far l.board l.so_far.written l.so_far.changed) c.loop-test.true) ∙ l.invariant.0),
  omega (arith, ap (λ (w : Written). w.written) c.note.ensures, one_more c.write_entry.result l.so_far, l.invariant.1),
)

pub returns : goal.returns
returns c =
    let l = c.loop in
    let e = sym (entries-end _ l.at _ (so_far l.board l.so_far.written l.so_far.changed) (omega (arith, c.loop-test.false))) ∙ l.invariant.0 in
    record { leaves = ap (λ (x : Entered). x.board) e; gives = ap (λ (x : Entered). record { written = x.written; changed = x.changed }) e }
