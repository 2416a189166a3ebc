use Rattle.std.proofs.Common.{rules}
use Rattle.cip_datagram.proofs.write.fixed_part.Goals as goal

pub returns-clause-text : goal.returns-clause-text
returns-clause-text c = search rules
