use Rattle.std.proofs.Common.{arith, sym, subst, ◌∙◌}
use Rattle.cip_encap.specs.Packet.{IsPacketReading}
use Rattle.cip_encap.proofs.PacketLaws.{packet_reading_is, one_packet_reading}
use Rattle.cip_encap.proofs.packet.read_items.Goals as goal

pub returns-clause-reading : goal.returns-clause-reading
returns-clause-reading c = subst (IsPacketReading c.args.bytes.now) (sym c.parsed.ensures) (packet_reading_is c.args.bytes.now (λ i. omega (arith, c.type_inv.bytes i)))

pub returns-clause-only : goal.returns-clause-only
returns-clause-only c = λ other is. c.parsed.ensures ∙ one_packet_reading c.args.bytes.now (λ i. omega (arith, c.type_inv.bytes i)) other is
