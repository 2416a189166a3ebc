use Rattle.std.proofs.Common.{arith, sym}
use Rattle.cip_fwdopen.specs.Services.{is_large_open}
use Rattle.cip_router.proofs.Lengths.{opened_len, closed_len, object_reply_len, refused_len, intervals_len, own_reply_len}
use Rattle.cip_router.proofs.reply.Reply.len.Goals as goal

pub returns-in-Opened : goal.returns-in-Opened
returns-in-Opened c = rw c.in-Opened.is (sym (opened_len (is_large_open c.in-Opened.field-0) c.in-Opened.field-1))

pub returns-in-Closed : goal.returns-in-Closed
returns-in-Closed c = rw c.in-Closed.is (sym (closed_len c.in-Closed.field-0))

pub returns-in-Object : goal.returns-in-Object
returns-in-Object c = rw c.in-Object.is (sym (object_reply_len c.in-Object.field-0 c.in-Object.value.now))

pub returns-in-Refused : goal.returns-in-Refused
returns-in-Refused c =
    let sum = refused_len c.in-Refused.field-0 c.in-Refused.fault c.in-Refused.triad in
    rw c.in-Refused.is (omega (arith, sum, c.extended_len.ensures, c.failure_len.ensures))

pub returns-in-Unacceptable : goal.returns-in-Unacceptable
returns-in-Unacceptable c = rw c.in-Unacceptable.is (sym (intervals_len c.in-Unacceptable.field-0 c.in-Unacceptable.field-1 c.in-Unacceptable.field-2))

pub returns-in-Own : goal.returns-in-Own
returns-in-Own c = rw c.in-Own.is (sym (own_reply_len c.in-Own.field-0 c.in-Own.field-1 c.in-Own.content.now))
