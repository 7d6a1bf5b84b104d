-- `orders::entries_length`: the bytes so far and those of the entries that are left are the bytes of all.
use mathlib.Core.Path.{◌≡◌}
use Prim.Native.Nat.{◌+◌, ◌-◌}
use native.Mathlib.Nat.{sub-zero}
use native.Mathlib.Omega.{arith}
use Rattle.orders.proofs.Entries.{length_none, counted-cut, counted-turn}
use Rattle.orders.proofs.entries_length.Goals as goal

pub loop-entry-init : goal.loop-entry-init
loop-entry-init c = (omega arith, rw sub-zero (omega arith))

pub returns-then-content-length : goal.returns-then-content-length
returns-then-content-length c = let l = c.loop-entry in counted-cut _ l.length _ (c.args.count - l._entry) _ (rw (c.from.ensures, c.two_at.ensures))
    (omega arith) l.invariant.1 c.if-content-length.true

pub loop-entry-preserved : goal.loop-entry-preserved
loop-entry-preserved c =
    let l = c.loop-entry in
    let fewer : c.args.count - (l._entry + 1) ≡ c.args.count - l._entry - 1 = omega arith in (
      omega arith,
      rw fewer (counted-turn _ l.length _ (c.args.count - l._entry) _ (rw (c.from.ensures, c.two_at.ensures)) (omega arith) l.invariant.1
          c.if-content-length.false),
    )

pub returns : goal.returns
returns c = let l = c.loop-entry in
    omega (arith, l.invariant.1, length_none c.args.content.now (3 + l.length) (c.args.count - l._entry) (omega arith))
