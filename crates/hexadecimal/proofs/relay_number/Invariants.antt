-- `hexadecimal::relay_number`: the relays from number k on are gathered.
use Rattle.hexadecimal.proofs.Showing.{Gathering}
use Rattle.hexadecimal.proofs.relay_number.Given as goal

abbrev pub invariant-loop-k : goal.invariant-loop-k
invariant-loop-k l = Gathering l.board l.number l.k
