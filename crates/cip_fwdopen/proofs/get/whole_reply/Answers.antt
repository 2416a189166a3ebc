use Rattle.std.proofs.Common.{Ok, Err, sym, ap, ◌∙◌}
use Rattle.std.proofs.lemmas.Result.{err_from_is_err_and}
use Rattle.cip_fwdopen.specs.Get.{view_answer}
use Rattle.cip_fwdopen.specs.Readings.{seen}
use Rattle.cip_fwdopen.proofs.GetLaws.{ends_before, ends_answer}
use Rattle.cip_fwdopen.proofs.get.whole_reply.Goals as goal

pub returns-in_default : goal.returns-in_default
returns-in_default c = sym (ends_before c.args.bytes.now c.in_default.ensures)

pub returns-in_err-answer : goal.returns-in_err-answer
returns-in_err-answer c =
    let p = err_from_is_err_and c.from_residual.result c.from_residual.ensures.1 in
    rw (p.1, p.2) (sym (ends_answer c.args.bytes.now (c.in-Some.reply.service, c.in-Some.reply.fault, c.in-Some.reply.content.now) (Err c.in_err-answer.field-0.0) c.in-Some.ensures (ap (seen view_answer) (sym c.in_err-answer.was) ∙ c.answer_of.ensures)))

pub returns : goal.returns
returns c = sym (ends_answer c.args.bytes.now (c.in-Some.reply.service, c.in-Some.reply.fault, c.in-Some.reply.content.now) (Ok (view_answer c.in_ok-answer.answer)) c.in-Some.ensures (ap (seen view_answer) (sym c.in_ok-answer.was) ∙ c.answer_of.ensures))
