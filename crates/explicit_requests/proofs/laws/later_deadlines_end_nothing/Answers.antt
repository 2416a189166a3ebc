use Rattle.explicit_requests.proofs.Resting.{none_late_yet}
use Rattle.explicit_requests.proofs.laws.later_deadlines_end_nothing.Goals as goal

pub returns : goal.returns
returns c = none_late_yet
