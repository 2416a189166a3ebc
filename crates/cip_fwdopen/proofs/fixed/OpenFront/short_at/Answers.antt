use Rattle.std.proofs.Common.{false}
use Rattle.std.proofs.lemmas.List.{take_rest}
use Rattle.cip_types.specs.PartLaws.{fields_few, fields_stand}
use Rattle.cip_fwdopen.specs.Open.{open_widths}
use Rattle.cip_fwdopen.proofs.fixed.OpenFront.short_at.Goals as goal

pub returns-then-bytes-lt36 : goal.returns-then-bytes-lt36
returns-then-bytes-lt36 c = fields_few (open_widths false) c.args.bytes.now c.if-bytes-lt36.true

pub returns : goal.returns
returns c = rw (c.u32_in.ensures, c.u32_in-2.ensures, c.u16_in.ensures, c.u16_in-2.ensures, c.u32_in-3.ensures, c.u32_in-4.ensures, c.from.ensures, c.u16_in-3.ensures, c.u32_in-5.ensures, c.from-2.ensures, c.u16_in-4.ensures, take_rest) (fields_stand (open_widths false) c.args.bytes.now c.if-bytes-lt36.false)
