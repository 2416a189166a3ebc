use Rattle.std.proofs.Common.{rules}
use Rattle.cip_datagram.proofs.mode.read_header.Goals as goal

pub returns : goal.returns
returns c = search rules
