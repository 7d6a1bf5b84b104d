-- `readings::write_entry_head`: two numbers, one behind the other.
use Rattle.writers.proofs.Writing.{then}
use Rattle.readings.proofs.write_entry_head.Goals as goal

pub returns : goal.returns
returns c = then c.u64.ensures c.u16.ensures
