use Rattle.std.proofs.Common.{rules}
use Rattle.cip_types.proofs.circle.newer32.Goals as goal

pub returns-clause-newer : goal.returns-clause-newer
returns-clause-newer c = search rules

pub returns-clause-value : goal.returns-clause-value
returns-clause-value c = search rules
