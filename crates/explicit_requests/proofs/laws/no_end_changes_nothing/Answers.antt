use Rattle.explicit_requests.proofs.Resting.{no_end}
use Rattle.explicit_requests.proofs.laws.no_end_changes_nothing.Goals as goal

pub returns : goal.returns
returns c = no_end
