use Rattle.std.proofs.lemmas.List.{take_rest}
use Rattle.cip_types.specs.PartLaws.{fields_few, fields_stand}
use Rattle.cip_encap.specs.Connected.{connected_widths}
use Rattle.cip_encap.proofs.connected_header.ConnectedHeader.at.Goals as goal

pub returns-then-bytes-lt22 : goal.returns-then-bytes-lt22
returns-then-bytes-lt22 c = fields_few connected_widths c.args.bytes.now c.if-bytes-lt22.true

pub returns : goal.returns
returns c = rw (c.u32_in.ensures, c.u16_in.ensures, c.u16_in-2.ensures, c.u16_in-3.ensures, c.u16_in-4.ensures, c.u32_in-2.ensures, c.u16_in-5.ensures, c.u16_in-6.ensures, c.u16_in-7.ensures, take_rest) (fields_stand connected_widths c.args.bytes.now c.if-bytes-lt22.false)
