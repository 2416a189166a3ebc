use Rattle.std.proofs.Common.{rules}
use Rattle.cip_types.proofs.fields.put_u16.Goals as goal

pub returns-clause-ok : goal.returns-clause-ok
returns-clause-ok c = search rules
