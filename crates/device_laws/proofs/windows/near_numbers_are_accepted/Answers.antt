use Rattle.device_laws.proofs.WindowSteps.{near_numbers}
use Rattle.device_laws.proofs.windows.near_numbers_are_accepted.Goals as goal

pub returns : goal.returns
returns c = near_numbers
