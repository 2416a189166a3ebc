use Rattle.std.proofs.Common.{arith, sym, subst}
use Rattle.cip_fwdopen.specs.Close.{IsCloseReading}
use Rattle.cip_fwdopen.proofs.CloseLaws.{close_is_reading, one_close}
use Rattle.cip_fwdopen.proofs.close.read_close.Goals as goal

pub returns-clause-reading : goal.returns-clause-reading
returns-clause-reading c = subst (IsCloseReading c.args.bytes.now) (sym c.whole_close.ensures) (close_is_reading c.args.bytes.now (λ i. omega (arith, c.type_inv.bytes i)))

pub returns-clause-only : goal.returns-clause-only
returns-clause-only c = λ other is. one_close c.args.bytes.now _ other (returns-clause-reading c) is
