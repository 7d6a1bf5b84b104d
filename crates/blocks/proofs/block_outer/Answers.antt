-- `blocks::block_outer`: a mask of a byte leaves the second deck alone.
use Rattle.std.proofs.Common.{sym, ◌∙◌}
use Rattle.blocks.proofs.Masking.{rows_above, moves-above, none-reached, none_moves}
use Rattle.blocks.proofs.block_outer.Goals as goal

pub returns-then-mask-lt256-clause-board_after : goal.returns-then-mask-lt256-clause-board_after
returns-then-mask-lt256-clause-board_after c = sym (none-reached c.args.mask c.args.state c.args.board.now c.if-mask-lt256.true)

pub returns-then-mask-lt256-clause-value : goal.returns-then-mask-lt256-clause-value
returns-then-mask-lt256-clause-value c = sym (none_moves c.args.mask c.args.state c.args.board.now c.if-mask-lt256.true)

pub returns-clause-board_after : goal.returns-clause-board_after
returns-clause-board_after c = c.block_deck.ensures.board_after ∙ rw (rows_above c.args.mask c.args.state)

pub returns-clause-value : goal.returns-clause-value
returns-clause-value c = c.block_deck.ensures.value ∙ moves-above c.args.mask c.args.state c.args.board.now
