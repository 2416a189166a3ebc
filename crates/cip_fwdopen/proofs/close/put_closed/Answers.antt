use Rattle.std.proofs.Common.{arith}
use Rattle.std.proofs.lemmas.Grind.{common_steps}
use Rattle.cip_fwdopen.specs.Close.{closed_text}
use Rattle.cip_fwdopen.proofs.close.put_closed.Goals as goal

pub returns : goal.returns
unfolding closed_text
returns c = grind (arith, common_steps)
