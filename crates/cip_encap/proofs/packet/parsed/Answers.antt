use Rattle.std.proofs.Common.{rules}
use Rattle.cip_encap.specs.PacketReading.{packet_reading}
use Rattle.cip_encap.proofs.packet.parsed.Goals as goal

pub returns : goal.returns
unfolding packet_reading
returns c = search rules
