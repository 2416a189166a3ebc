use Rattle.std.proofs.lemmas.List.{take_rest}
use Rattle.cip_types.specs.PartLaws.{fields_few, fields_stand}
use Rattle.cip_fwdopen.specs.Reply.{triad_widths}
use Rattle.cip_fwdopen.proofs.reply.triad_at.Goals as goal

pub returns-then-bytes-lt8 : goal.returns-then-bytes-lt8
returns-then-bytes-lt8 c = fields_few triad_widths c.args.bytes.now c.if-bytes-lt8.true

pub returns : goal.returns
returns c = rw (c.triad_in.ensures, take_rest) (fields_stand triad_widths c.args.bytes.now c.if-bytes-lt8.false)
