-- `console::Console::feed_line`: a piece that was parsed, and a bad line.
use Rattle.std.proofs.Common.{refl, sym, rules}
use native.Mathlib.Omega.{arith}
use lib.Seq.{length-take-le}
use Rattle.console.proofs.Feeding.{piece-parsed, line-fed, line-bad}
use Rattle.console.proofs.Console.feed_line.Goals as goal

pub slice_bounds-piece-end : goal.slice_bounds-piece-end
slice_bounds-piece-end c = (piece-parsed _ _ _ _ _ (search rules) c.parse.ensures.value c.parse.ensures.out_after c.in-Some.is).0

pub slice_bounds-bytes-end : goal.slice_bounds-bytes-end
slice_bounds-bytes-end c =
    sym (length-take-le _ _ (piece-parsed _ _ _ _ _ (search rules) c.parse.ensures.value c.parse.ensures.out_after c.in-Some.is).0)

pub returns-in-Some : goal.returns-in-Some
returns-in-Some c =
    let e = c.parse.ensures in
    let b = c.bytes.ensures in
    let f = line-fed _ _ _ _ _ (search rules) (piece-parsed _ _ _ _ _ (search rules) e.value e.out_after c.in-Some.is).1
    (b.answers, (b.halves_after, b.rooms_after)) in
    record { answers = f.0; halves_after = f.1.0; rooms_after = f.1.1; line_after = (refl, refl); byte = b.byte }

pub returns-in-None : goal.returns-in-None
returns-in-None c =
    let f = line-bad _ _ _ _ c.parse.ensures.value c.in-None.is in
    record { answers = f.0; halves_after = f.1.0; rooms_after = f.1.1; line_after = (refl, refl); byte = omega arith }
