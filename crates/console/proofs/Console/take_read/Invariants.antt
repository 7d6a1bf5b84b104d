-- `console::Console::take_read`: after i bytes the console holds what they make of it, and has said what they say.
use Rattle.std.proofs.Common.{◌≡◌, take}
use Rattle.console.specs.Console.{held_of}
use Rattle.console.proofs.Stepping.{Running}
use Rattle.console.proofs.Console.take_read.Given as goal

abbrev pub invariant-loop-byte : goal.invariant-loop-byte
invariant-loop-byte l =
    Running (held_of l.initial.self) l.byte-items l.initial.out (held_of l.self) l.out l.len l.byte-index × (l.byte-items ≡ take 4096 l.input)
