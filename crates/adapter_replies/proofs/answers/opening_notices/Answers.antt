use Rattle.std.proofs.Common.{rules}
use Rattle.adapter_replies.proofs.answers.opening_notices.Goals as goal

pub returns : goal.returns
returns c = search rules
