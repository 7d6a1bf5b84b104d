-- `modules::output_count`: four for each module.
use Rattle.std.proofs.Common.{arith}
use Rattle.std.proofs.lemmas.Grind.{common_steps}
use Rattle.modules.proofs.Outputs.{outputs-count}
use Rattle.modules.proofs.output_count.Goals as goal

pub returns : goal.returns
returns c = grind (arith, common_steps, outputs-count)
