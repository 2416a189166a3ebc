use Rattle.std.proofs.Common.{arith}
use Rattle.cip_fwdopen.proofs.CloseLaws.{close_text_len}
use Rattle.cip_fwdopen.proofs.close.close_len.Goals as goal

pub returns : goal.returns
returns c = λ request is. omega (arith, close_text_len request, is)
