-- `console::Console::take_read`: the start, a byte more, and the end.
use Rattle.std.proofs.Common.{ap, length, arith}
use lib.ListN.{length-take}
use Rattle.console.specs.Console.{held_of}
use Rattle.console.proofs.Stepping.{run-start, run-turn, run-done, take-min}
use Rattle.console.proofs.Console.take_read.Goals as goal

pub loop-byte-init : goal.loop-byte-init
loop-byte-init c = (run-start, take-min 4096 _ _ c.min-count.ensures)

pub loop-byte-preserved : goal.loop-byte-preserved
loop-byte-preserved c =
    let i = c.loop-byte.invariant in
    let t = c.take_byte-len in
    (run-turn {h' = held_of t.new.self} i.0 c.loop-byte-test.true t.ensures.held_after t.ensures.wrote, i.1)

pub returns : goal.returns
returns c =
    let i = c.loop-byte.invariant in
    let e = run-done i.0 (omega (arith, c.loop-byte-test.false)) in
    record { held_after = rw i.1 at e.0; wrote = rw i.1 at e.1; fits = omega (arith, e.2, ap length i.1, length-take 4096 c.args.input.now) }
