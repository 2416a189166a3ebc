use Rattle.std.proofs.lemmas.List.{take_rest}
use Rattle.cip_types.specs.PartLaws.{fields_few, fields_stand}
use Rattle.cip_datagram.specs.Datagram.{datagram_widths}
use Rattle.cip_datagram.proofs.fixed.DatagramFront.at.Goals as goal

pub returns-then-bytes-lt20 : goal.returns-then-bytes-lt20
returns-then-bytes-lt20 c = fields_few datagram_widths c.args.bytes.now c.if-bytes-lt20.true

pub returns : goal.returns
returns c = rw (c.u16_in.ensures, c.u16_in-2.ensures, c.u16_in-3.ensures, c.u32_in.ensures, c.u32_in-2.ensures, c.u16_in-4.ensures, c.u16_in-5.ensures, c.u16_in-6.ensures, take_rest) (fields_stand datagram_widths c.args.bytes.now c.if-bytes-lt20.false)
