use Rattle.std.proofs.Common.{sym}
use Rattle.cip_epath.specs.declared.segment.LogicalType.TheVariants.{Instance}
use Rattle.cip_epath.proofs.write.config_len.Goals as goal

pub returns-in-Some-clause-len : goal.returns-in-Some-clause-len
returns-in-Some-clause-len c = rw c.in-Some.is (sym (c.logical_len.ensures.len Instance))
