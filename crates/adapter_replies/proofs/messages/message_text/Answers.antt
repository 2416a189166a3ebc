use Rattle.cip_router.specs.ReplyLaws.{reply_is_short}
use Rattle.cip_router.specs.Replies.{view_reply}
use Rattle.adapter_replies.proofs.messages.message_text.Goals as goal

pub returns-clause-few : goal.returns-clause-few
returns-clause-few c =
    let short = reply_is_short (view_reply c.fitted-fitted.result) c.fitted-fitted.ensures.writable.few in
    rw c.in_ok-text.ensures short.few
