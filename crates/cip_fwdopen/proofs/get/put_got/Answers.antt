use Rattle.std.proofs.Common.{arith}
use Rattle.std.proofs.lemmas.Grind.{common_steps}
use Rattle.cip_fwdopen.specs.Get.{got_text}
use Rattle.cip_fwdopen.proofs.get.put_got.Goals as goal

pub returns : goal.returns
unfolding got_text
returns c = grind (arith, common_steps)
