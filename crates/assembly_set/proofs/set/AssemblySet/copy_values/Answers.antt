use Rattle.std.proofs.Common.{rules}
use Rattle.assembly_set.proofs.set.AssemblySet.copy_values.Goals as goal

pub returns : goal.returns
returns c = search rules
