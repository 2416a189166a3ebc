use Rattle.std.proofs.Common.{rules}
use Rattle.cip_types.proofs.fields.u32_at.Goals as goal

pub returns : goal.returns
returns c = search rules
