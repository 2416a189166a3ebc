use Rattle.std.proofs.Common.{rules}
use Rattle.assembly_set.proofs.values.zeros.Goals as goal

pub returns : goal.returns
returns c = search rules
