-- `blocks::block_deck`: each turn sets one relay in place and asks whether it moved.
use Rattle.std.proofs.Common.{◌+◌, ◌<◌, arith}
use Rattle.laws.proofs.Each.{ask-start, ask-turn}
use Rattle.rows.specs.Places.{relay_place}
use Rattle.rows.proofs.Range.{range-start, range-turn}
use Rattle.blocks.proofs.Masking.{masked_row, relay-waits}
use Rattle.blocks.proofs.block_deck.Goals as goal

pub loop-k-init : goal.loop-k-init
loop-k-init c = (range-start, ask-start)

pub loop-k-preserved : goal.loop-k-preserved
loop-k-preserved c =
    let i = c.loop-k.invariant in
    let h = c.loop-k-test.true in
    let n = c.args.first + c.loop-k.k in
    let wide : n < 16 = omega (arith, h, c.requires) in
    let p = c.bit.ensures in
    let q = c.bit-in-loop-k.ensures in
    let m = c.mask_relay-changed.ensures in (
      range-turn (relay_place (n + 1)) (omega arith) i.0 h (masked_row _ _ _ n _ _ _ _ wide p q m.board_after),
      ask-turn i.1 h (rw (m.value, p, q, relay-waits n (omega arith) i.0)),
    )
