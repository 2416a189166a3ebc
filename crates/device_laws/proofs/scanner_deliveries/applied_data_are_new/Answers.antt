use Rattle.device_laws.proofs.NewestSteps.{steps_apply_new, events_apply_new}
use Rattle.device_laws.proofs.scanner_deliveries.applied_data_are_new.Goals as goal

pub returns : goal.returns
returns c = record { step = steps_apply_new; events = events_apply_new }
