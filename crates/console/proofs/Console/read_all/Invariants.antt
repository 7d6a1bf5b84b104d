-- `console::Console::read_all`: the measure is the number of reads that are left, and it stops where none is.
use Rattle.console.proofs.Console.read_all.Given as goal

abbrev pub decreases-loop-left : goal.decreases-loop-left
decreases-loop-left l = l.left
