use Rattle.device_laws.proofs.NewestSteps.{steps_apply_once, events_apply_once}
use Rattle.device_laws.proofs.scanner_deliveries.the_last_datagram_is_not_applied_again.Goals as goal

pub returns : goal.returns
returns c = record { step = steps_apply_once; events = events_apply_once }
