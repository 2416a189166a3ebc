use Rattle.std.proofs.Common.{arith, sym, subst, ◌∙◌}
use Rattle.cip_fwdopen.specs.Request.{IsRequestReading}
use Rattle.cip_fwdopen.proofs.RequestLaws.{request_is_reading, one_request}
use Rattle.cip_fwdopen.proofs.message.read_request.Goals as goal

pub returns-clause-reading : goal.returns-clause-reading
returns-clause-reading c = subst (IsRequestReading c.args.bytes.now) (sym c.whole_request.ensures) (request_is_reading c.args.bytes.now (λ i. omega (arith, c.type_inv.bytes i)))

pub returns-clause-only : goal.returns-clause-only
returns-clause-only c = λ other is. c.whole_request.ensures ∙ one_request c.args.bytes.now (λ i. omega (arith, c.type_inv.bytes i)) other is
