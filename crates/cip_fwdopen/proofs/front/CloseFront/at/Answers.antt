use Rattle.std.proofs.lemmas.List.{take_rest}
use Rattle.cip_types.specs.PartLaws.{fields_few, fields_stand}
use Rattle.cip_fwdopen.specs.Close.{close_widths}
use Rattle.cip_fwdopen.proofs.front.CloseFront.at.Goals as goal

pub returns-then-bytes-lt12 : goal.returns-then-bytes-lt12
returns-then-bytes-lt12 c = fields_few close_widths c.args.bytes.now c.if-bytes-lt12.true

pub returns : goal.returns
returns c = rw (c.triad_in.ensures, take_rest) (fields_stand close_widths c.args.bytes.now c.if-bytes-lt12.false)
