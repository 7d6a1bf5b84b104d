-- `console::Console::take_end`: a last line's answer fits.
use Rattle.std.proofs.Common.{arith}
use Rattle.console.specs.Console.{held_of, line_held}
use Rattle.console.proofs.Stepping.{shown-size}
use Rattle.console.proofs.Console.take_end.Goals as goal

pub returns-clause-fits : goal.returns-clause-fits
returns-clause-fits c = omega (arith, c.end_line.ensures.wrote.place, shown-size (line_held (held_of c.args.self.now)))
