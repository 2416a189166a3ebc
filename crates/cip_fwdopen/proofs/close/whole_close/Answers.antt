use Rattle.std.proofs.Common.{arith, sym}
use Rattle.cip_fwdopen.specs.Numbers.{close_front_numbers}
use Rattle.cip_fwdopen.proofs.CloseLaws.{lacks_fixed, lacks_path, exceeds_path, ends_path}
use Rattle.cip_fwdopen.proofs.close.whole_close.Goals as goal

pub returns-in_default : goal.returns-in_default
returns-in_default c = sym (lacks_fixed c.args.bytes.now c.in_default.ensures)

pub returns-then-rest-len : goal.returns-then-rest-len
returns-then-rest-len c = sym (lacks_path c.args.bytes.now (close_front_numbers c.in-Some.front) c.in-Some.rest.now c.in-Some.ensures (omega arith))

pub returns-then-rest-len-2 : goal.returns-then-rest-len-2
returns-then-rest-len-2 c = sym (exceeds_path c.args.bytes.now (close_front_numbers c.in-Some.front) c.in-Some.rest.now c.in-Some.ensures (omega arith))

pub returns : goal.returns
returns c = sym (ends_path c.args.bytes.now (close_front_numbers c.in-Some.front) c.in-Some.rest.now c.in-Some.ensures (omega arith))
