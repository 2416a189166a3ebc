use Rattle.std.proofs.Common.{rules}
use Rattle.cip_types.proofs.circle.same16.Goals as goal

pub returns : goal.returns
returns c = search rules
