use Rattle.std.proofs.Common.{arith}
use Rattle.cip_fwdopen.proofs.OpenLaws.{open_text_len}
use Rattle.cip_fwdopen.proofs.write.open_len.Goals as goal
use Rattle.cip_fwdopen.specs.Services.{is_large_open}

pub returns-then-large : goal.returns-then-large
returns-then-large c = λ request is. grind (arith, open_text_len (is_large_open c.args.service) request, is)

pub returns-else-large : goal.returns-else-large
returns-else-large c = λ request is. grind (arith, open_text_len (is_large_open c.args.service) request, is)
