use Rattle.device_laws.proofs.StatedLimits.{far_numbers_stay}
use Rattle.device_laws.proofs.stated_limits.numbers_far_ahead_change_nothing.Goals as goal

pub returns : goal.returns
returns c = far_numbers_stay
