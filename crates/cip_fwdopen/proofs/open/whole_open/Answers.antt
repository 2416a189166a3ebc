use Rattle.std.proofs.Common.{arith, sym, ap, ◌∙◌, Ok}
use Rattle.cip_fwdopen.specs.Numbers.{numbers_of}
use Rattle.cip_fwdopen.proofs.OpenLaws.{lacks_fixed, lacks_path, exceeds_path, ends_path}
use Rattle.cip_fwdopen.proofs.open.whole_open.Goals as goal
use Rattle.cip_fwdopen.specs.Services.{is_large_open}

pub returns-in_default : goal.returns-in_default
returns-in_default c = sym (lacks_fixed (is_large_open c.args.service) c.args.bytes.now c.in_default.ensures)

pub returns-then-rest-len : goal.returns-then-rest-len
returns-then-rest-len c = sym (lacks_path (is_large_open c.args.service) c.args.bytes.now (numbers_of c.in-Some.fixed) c.in-Some.rest.now c.in-Some.ensures (omega arith))

pub returns-then-rest-len-2 : goal.returns-then-rest-len-2
returns-then-rest-len-2 c = sym (exceeds_path (is_large_open c.args.service) c.args.bytes.now (numbers_of c.in-Some.fixed) c.in-Some.rest.now c.in-Some.ensures (omega arith))

pub returns : goal.returns
returns c = ap Ok c.request_of.ensures ∙ sym (ends_path (is_large_open c.args.service) c.args.bytes.now (numbers_of c.in-Some.fixed) c.in-Some.rest.now c.in-Some.ensures (omega arith))
