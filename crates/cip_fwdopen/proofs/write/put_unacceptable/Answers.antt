use Rattle.std.proofs.Common.{arith}
use Rattle.std.proofs.lemmas.Grind.{common_steps}
use Rattle.cip_fwdopen.specs.Reply.{intervals_text}
use Rattle.cip_fwdopen.proofs.ByteLaws.{service_bit}
use Rattle.cip_fwdopen.proofs.write.put_unacceptable.Goals as goal

pub returns : goal.returns
unfolding intervals_text
returns c = grind (arith, common_steps, service_bit)
