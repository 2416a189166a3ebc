use Rattle.std.proofs.Common.{true}
use Rattle.std.proofs.lemmas.List.{take_rest}
use Rattle.cip_types.specs.PartLaws.{fields_few, fields_stand}
use Rattle.cip_fwdopen.specs.Open.{open_widths}
use Rattle.cip_fwdopen.proofs.fixed.OpenFront.large_at.Goals as goal

pub returns-then-bytes-lt40 : goal.returns-then-bytes-lt40
returns-then-bytes-lt40 c = fields_few (open_widths true) c.args.bytes.now c.if-bytes-lt40.true

pub returns : goal.returns
returns c = rw (c.u32_in.ensures, c.u32_in-2.ensures, c.u16_in.ensures, c.u16_in-2.ensures, c.u32_in-3.ensures, c.u32_in-4.ensures, c.u32_in-5.ensures, c.u32_in-6.ensures, c.u32_in-7.ensures, take_rest) (fields_stand (open_widths true) c.args.bytes.now c.if-bytes-lt40.false)
