use Rattle.std.proofs.lemmas.List.{take_rest}
use Rattle.cip_types.specs.PartLaws.{fields_few, fields_stand}
use Rattle.cip_encap.specs.Packet.{packet_widths}
use Rattle.cip_encap.proofs.packet_header.PacketHeader.at.Goals as goal

pub returns-then-bytes-lt16 : goal.returns-then-bytes-lt16
returns-then-bytes-lt16 c = fields_few packet_widths c.args.bytes.now c.if-bytes-lt16.true

pub returns : goal.returns
returns c = rw (c.u32_in.ensures, c.u16_in.ensures, c.u16_in-2.ensures, c.u16_in-3.ensures, c.u16_in-4.ensures, c.u16_in-5.ensures, c.u16_in-6.ensures, take_rest) (fields_stand packet_widths c.args.bytes.now c.if-bytes-lt16.false)
