use Rattle.std.proofs.Common.{rules}
use Rattle.cip_productions.proofs.producing.changed.Goals as goal

pub returns-in-Cyclic : goal.returns-in-Cyclic
returns-in-Cyclic c = search rules
