use Rattle.device_laws.proofs.NewestSteps.{steps_accept_newer, refusals_accept_nothing, events_accept_newer}
use Rattle.device_laws.proofs.scanner_deliveries.accepted_numbers_are_newer.Goals as goal

pub returns : goal.returns
returns c = record { step = steps_accept_newer; refusal = refusals_accept_nothing; events = events_accept_newer }
