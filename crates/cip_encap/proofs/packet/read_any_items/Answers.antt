use Rattle.std.proofs.Common.{rules}
use Rattle.cip_encap.specs.AnyItems.{any_packet_reading}
use Rattle.cip_encap.proofs.packet.read_any_items.Goals as goal

pub returns : goal.returns
unfolding any_packet_reading
returns c = search rules
