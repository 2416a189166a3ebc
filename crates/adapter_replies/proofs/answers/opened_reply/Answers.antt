use Rattle.std.proofs.Common.{rules}
use Rattle.adapter_replies.proofs.answers.opened_reply.Goals as goal

pub returns : goal.returns
returns c = search rules
