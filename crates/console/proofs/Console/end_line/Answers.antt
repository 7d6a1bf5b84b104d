-- `console::Console::end_line`: the line is fed, and its answer written.
use Rattle.console.specs.Console.{held_of}
use Rattle.console.proofs.Stepping.{line-ended}
use Rattle.console.proofs.Console.end_line.Goals as goal

pub returns : goal.returns
returns c =
    let f = c.feed_line-done in
    let e = line-ended (held_of c.args.self.now) _ f.result f.new.self.board f.new.self.halves f.new.self.rooms f.new.self.reply
    c.digits-text.result _ _ c.relay_number.result _ (f.ensures.answers, (f.ensures.halves_after, f.ensures.rooms_after))
    c.relay_number.ensures c.digits-text.ensures c.copy.ensures c.requires in
    record { held_after = rw f.ensures.line_after.0 e.0; wrote = e.1 }
