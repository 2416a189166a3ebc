use Rattle.std.proofs.Common.{List, ℕ, ◌≡◌, sym, subst, ap, ◌∙◌, Ok}
use Rattle.std.proofs.lemmas.Result.{IfOk-weaker}
use Rattle.cip_fwdopen.specs.Get.{got_reply, IsGetReplyText, get_reply_reading}
use Rattle.cip_fwdopen.proofs.GetLaws.{got_text_is, got_text_reads}
use Rattle.cip_fwdopen.proofs.get.write_got.Goals as goal

pub returns-clause-is_text : goal.returns-clause-is_text
returns-clause-is_text c = IfOk-weaker c.got_bytes.result _ (λ v. IsGetReplyText v.items (got_reply c.args.value.now)) (λ v is. subst (λ (text : List ℕ). IsGetReplyText text (got_reply c.args.value.now)) (sym is) (got_text_is c.args.value.now)) c.got_bytes.ensures

pub returns-clause-read_back : goal.returns-clause-read_back
returns-clause-read_back c = IfOk-weaker c.got_bytes.result _ (λ v. get_reply_reading v.items ≡ Ok (got_reply c.args.value.now)) (λ v is. ap get_reply_reading is ∙ got_text_reads c.args.value.now) c.got_bytes.ensures
