use Rattle.std.proofs.Common.{arith, sym, subst}
use Rattle.cip_fwdopen.specs.Close.{IsCloseReplyReading}
use Rattle.cip_fwdopen.proofs.CloseReplyLaws.{reply_is_reading, one_reply}
use Rattle.cip_fwdopen.proofs.close.read_close_reply.Goals as goal

pub returns-clause-reading : goal.returns-clause-reading
returns-clause-reading c = subst (IsCloseReplyReading c.args.bytes.now) (sym c.whole_reply.ensures) (reply_is_reading c.args.bytes.now (λ i. omega (arith, c.type_inv.bytes i)))

pub returns-clause-only : goal.returns-clause-only
returns-clause-only c = λ other is. one_reply c.args.bytes.now c.whole_reply.result other (returns-clause-reading c) is
