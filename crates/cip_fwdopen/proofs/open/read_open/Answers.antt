use Rattle.std.proofs.Common.{arith, sym, subst}
use Rattle.cip_fwdopen.specs.Open.{IsOpenReading}
use Rattle.cip_fwdopen.proofs.OpenLaws.{open_is_reading, one_open}
use Rattle.cip_fwdopen.proofs.open.read_open.Goals as goal
use Rattle.cip_fwdopen.specs.Services.{is_large_open}

pub returns-clause-reading : goal.returns-clause-reading
returns-clause-reading c = subst (IsOpenReading (is_large_open c.args.service) c.args.bytes.now) (sym c.whole_open.ensures) (open_is_reading (is_large_open c.args.service) c.args.bytes.now (λ i. omega (arith, c.type_inv.bytes i)))

pub returns-clause-only : goal.returns-clause-only
returns-clause-only c = λ other is. one_open (is_large_open c.args.service) c.args.bytes.now _ other (returns-clause-reading c) is
