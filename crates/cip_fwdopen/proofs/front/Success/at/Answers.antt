use Rattle.std.proofs.lemmas.List.{take_rest}
use Rattle.cip_types.specs.PartLaws.{fields_few, fields_stand}
use Rattle.cip_fwdopen.specs.Reply.{opened_widths}
use Rattle.cip_fwdopen.proofs.front.Success.at.Goals as goal

pub returns-then-bytes-lt26 : goal.returns-then-bytes-lt26
returns-then-bytes-lt26 c = fields_few opened_widths c.args.bytes.now c.if-bytes-lt26.true

pub returns : goal.returns
returns c = rw (c.u32_in.ensures, c.u32_in-2.ensures, c.triad_in.ensures, c.u32_in-3.ensures, c.u32_in-4.ensures, take_rest) (fields_stand opened_widths c.args.bytes.now c.if-bytes-lt26.false)
