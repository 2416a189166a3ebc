use Rattle.device_laws.proofs.WindowSteps.{far_slot_numbers}
use Rattle.device_laws.proofs.windows.numbers_far_ahead_change_no_slot.Goals as goal

pub returns : goal.returns
returns c = far_slot_numbers
