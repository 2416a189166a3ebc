use Rattle.std.proofs.Common.{Ok, Err, arith, sym, ◌∙◌}
use Rattle.cip_fwdopen.proofs.RequestLaws.{lacks_service, lacks_words, lacks_path, ends_path}
use Rattle.cip_fwdopen.proofs.message.whole_request.Goals as goal

pub returns-in_default : goal.returns-in_default
returns-in_default c = sym (lacks_service c.args.bytes.now c.in_default.ensures)

pub returns-in_default-u8_at : goal.returns-in_default-u8_at
returns-in_default-u8_at c = sym (lacks_words c.args.bytes.now c.in-Some.rest.now c.in-Some.service c.in-Some.ensures c.in_default-u8_at.ensures)

pub returns-then-rest-len : goal.returns-then-rest-len
returns-then-rest-len c = sym (lacks_path c.args.bytes.now c.in-Some.rest.now c.in-Some-u8_at.rest.now c.in-Some.service c.in-Some-u8_at.words c.in-Some.ensures c.in-Some-u8_at.ensures (omega arith))

pub returns-in-Ok : goal.returns-in-Ok
returns-in-Ok c =
    let e = ends_path c.args.bytes.now c.in-Some.rest.now c.in-Some-u8_at.rest.now c.split_at.result.0.now c.split_at.result.1.now c.in-Some.service c.in-Some-u8_at.words c.from-len.result (Ok c.in-Ok.target)
    c.in-Some.ensures c.in-Some-u8_at.ensures c.from-len.ensures (omega arith) c.split_at.ensures.front c.split_at.ensures.back (sym c.in-Ok.is ∙ c.read_target.ensures.value) in
    sym e

pub returns-in-Err : goal.returns-in-Err
returns-in-Err c =
    let e = ends_path c.args.bytes.now c.in-Some.rest.now c.in-Some-u8_at.rest.now c.split_at.result.0.now c.split_at.result.1.now c.in-Some.service c.in-Some-u8_at.words c.from-len.result (Err c.in-Err.fault)
    c.in-Some.ensures c.in-Some-u8_at.ensures c.from-len.ensures (omega arith) c.split_at.ensures.front c.split_at.ensures.back (sym c.in-Err.is ∙ c.read_target.ensures.value) in
    sym e
