use Rattle.scanner_table.proofs.ExplicitReplySteps.{replies_pending}
use Rattle.scanner_table.proofs.explicit.replies_are_to_pending_requests.Goals as goal

pub returns : goal.returns
returns c = replies_pending
