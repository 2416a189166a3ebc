use Rattle.std.proofs.Common.{rules}
use Rattle.cip_productions.proofs.producing.produced.Goals as goal

pub returns : goal.returns
returns c = search rules
