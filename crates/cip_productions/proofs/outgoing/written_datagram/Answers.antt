use Rattle.std.proofs.Common.{rules}
use Rattle.cip_productions.proofs.outgoing.written_datagram.Goals as goal

pub returns : goal.returns
returns c = search rules
