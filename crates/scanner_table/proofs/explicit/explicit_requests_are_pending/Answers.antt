use Rattle.scanner_table.proofs.ExplicitSteps.{pending_law}
use Rattle.scanner_table.proofs.explicit.explicit_requests_are_pending.Goals as goal

pub returns : goal.returns
returns c = pending_law
