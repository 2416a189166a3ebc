use Rattle.std.proofs.lemmas.List.{take_rest}
use Rattle.cip_types.specs.PartLaws.{fields_few, fields_stand}
use Rattle.cip_fwdopen.specs.Close.{closed_widths}
use Rattle.cip_fwdopen.proofs.front.ClosedFront.at.Goals as goal

pub returns-then-bytes-lt10 : goal.returns-then-bytes-lt10
returns-then-bytes-lt10 c = fields_few closed_widths c.args.bytes.now c.if-bytes-lt10.true

pub returns : goal.returns
returns c = rw (c.triad_in.ensures, take_rest) (fields_stand closed_widths c.args.bytes.now c.if-bytes-lt10.false)
