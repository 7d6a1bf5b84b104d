-- `blocks::block`: one deck, then the other, which is all sixteen relays.
use Rattle.std.proofs.Common.{sym, ◌∙◌}
use Rattle.rows.specs.Places.{first_relay}
use Rattle.rows.proofs.Range.{one-by-two}
use Rattle.blocks.specs.Blocks.{blocked_row, block_of}
use Rattle.blocks.proofs.Masking.{inner-asked, outer-asked}
use Rattle.blocks.proofs.block.Goals as goal

pub returns : goal.returns
unfolding block_of
returns c =
    let i = c.block_deck-inner.ensures in
    let o = c.block_outer-outer.ensures in
    let m = c.args.mask in
    let s = c.args.state in
    let b = c.args.board.now in
    record {
      leaves = o.board_after ∙ rw i.board_after (sym (one-by-two first_relay 8 8 (blocked_row m s) b));
      gives = rw (i.value, o.value, i.board_after, inner-asked m s b, outer-asked m s b);
    }
