use Rattle.std.proofs.Common.{arith}
use Rattle.std.proofs.lemmas.Grind.{common_steps}
use Rattle.assembly_set.proofs.values.find_value.Goals as goal

pub returns-then-value-point : goal.returns-then-value-point
returns-then-value-point c = grind (arith, common_steps)
