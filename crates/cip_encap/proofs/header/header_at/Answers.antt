use Rattle.std.proofs.lemmas.List.{take_rest}
use Rattle.cip_types.specs.PartLaws.{fields_few, fields_stand}
use Rattle.cip_encap.specs.Message.{header_widths}
use Rattle.cip_encap.proofs.header.header_at.Goals as goal

pub returns-then-bytes-lt24 : goal.returns-then-bytes-lt24
returns-then-bytes-lt24 c = fields_few header_widths c.args.bytes.now c.if-bytes-lt24.true

pub returns : goal.returns
returns c = rw (c.u16_in.ensures, c.u16_in-2.ensures, c.u32_in.ensures, c.u32_in-2.ensures, c.u64_in.ensures, c.u32_in-3.ensures, take_rest) (fields_stand header_widths c.args.bytes.now c.if-bytes-lt24.false)
