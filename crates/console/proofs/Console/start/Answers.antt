-- `console::Console::start`: connection 0 opens, and so nothing is half read on it.
use Rattle.std.proofs.Common.{refl, ◌∙◌}
use Rattle.console.proofs.Starting.{opened}
use Rattle.console.specs.Lines.{started, started_halves}
use Rattle.console.proofs.Console.start.Goals as goal

pub returns : goal.returns
unfolding started started_halves
returns c =
    let e = rw c.power_up.ensures at c.connect.ensures.ends in
    record {
      board_after = e.board;
      halves_after = c.connect.ensures.halves_after ∙ rw (e.gives, opened);
      rooms_after = refl;
      line_after = refl;
      reply_after = refl;
      empty_line = refl;
    }
