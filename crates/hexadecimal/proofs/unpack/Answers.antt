-- `hexadecimal::unpack`: two digits more, and the line's end.
use Rattle.std.proofs.Common.{◌∙◌, arith, rules}
use Rattle.hexadecimal.proofs.Reading.{unpack-turn, unpack-done}
use Rattle.hexadecimal.proofs.unpack.Goals as goal

pub loop-place-preserved : goal.loop-place-preserved
loop-place-preserved c =
    let i = c.loop-place.invariant in
    let s = c.in-Some.ensures.steps in (
      search (rules, arith),
      tt,
      rw (s.2, s.1) (unpack-turn c.in-Some.pair.now _ i.2 s.0.1.0 (s.0.1.1 ∙ i.3)
          (rw (c.digit-in-loop-place.ensures.0, c.digit.ensures.0))),
      s.0.0 ∙ i.3,
    )

pub returns : goal.returns
returns c =
    let i = c.loop-place.invariant in
    unpack-done i.2 (omega (arith, i.3, c.in-None.ensures.steps))
