use Rattle.std.proofs.Common.{rules}
use Rattle.assembly_set.proofs.values.act.Goals as goal

pub returns-in-Hold-clause-values : goal.returns-in-Hold-clause-values
returns-in-Hold-clause-values c = search rules
