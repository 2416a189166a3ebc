use Rattle.std.proofs.Common.{rules, arith}
use Rattle.assembly_set.proofs.Shaping.{input_fits_lent}
use Rattle.assembly_set.proofs.set.AssemblySet.write.Goals as goal

pub put_value-requires-clause-fit : goal.put_value-requires-clause-fit
put_value-requires-clause-fit c = grind (arith, input_fits_lent)

pub returns-clause-fault : goal.returns-clause-fault
returns-clause-fault c = search rules
