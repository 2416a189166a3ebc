use Rattle.device_laws.proofs.WindowSteps.{near_slot_numbers}
use Rattle.device_laws.proofs.windows.near_numbers_are_accepted_by_slots.Goals as goal

pub returns : goal.returns
returns c = near_slot_numbers
