use Rattle.std.proofs.Common.{rules}
use Rattle.cip_encap.specs.ConnectedReading.{connected_reading}
use Rattle.cip_encap.proofs.connected.parsed.Goals as goal

pub returns : goal.returns
unfolding connected_reading
returns c = search rules
