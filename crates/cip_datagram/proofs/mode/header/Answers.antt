use Rattle.std.proofs.Common.{rules}
use Rattle.cip_datagram.proofs.mode.header.Goals as goal

pub returns : goal.returns
returns c = search rules
