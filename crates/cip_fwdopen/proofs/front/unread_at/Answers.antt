use Rattle.std.proofs.Common.{◌*◌, arith}
use Rattle.cip_fwdopen.specs.Numbers.{reply_front_numbers}
use Rattle.cip_fwdopen.proofs.ReplyLaws.{lacks_fixed, lacks_extended, ends_front}
use Rattle.cip_fwdopen.proofs.front.unread_at.Goals as goal

pub returns-in_err-front : goal.returns-in_err-front
returns-in_err-front c = rw c.from_residual.ensures (lacks_fixed c.args.bytes.now c.in_err-front.ensures)

pub returns-then-rest-len : goal.returns-then-rest-len
returns-then-rest-len c = lacks_extended c.args.bytes.now (reply_front_numbers c.in_ok-front.front) c.in_ok-front.rest.now c.in_ok-front.ensures (omega arith)

pub returns : goal.returns
returns c =
    ends_front c.args.bytes.now (reply_front_numbers c.in_ok-front.front) c.in_ok-front.rest.now c.split_at.result.0.now c.split_at.result.1.now (2 * c.from-len.result) c.first_word.result c.in_ok-front.ensures (omega arith) (omega arith) c.split_at.ensures.front c.split_at.ensures.back c.first_word.ensures
