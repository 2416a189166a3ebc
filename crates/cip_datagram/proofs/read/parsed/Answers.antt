use Rattle.std.proofs.Common.{rules}
use Rattle.cip_datagram.specs.Reading.{datagram_reading}
use Rattle.cip_datagram.proofs.read.parsed.Goals as goal

pub returns : goal.returns
unfolding datagram_reading
returns c = search rules
