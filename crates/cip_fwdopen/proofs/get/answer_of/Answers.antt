use Rattle.std.proofs.Common.{rules}
use Rattle.cip_fwdopen.proofs.get.answer_of.Goals as goal

pub returns : goal.returns
returns c = search rules
