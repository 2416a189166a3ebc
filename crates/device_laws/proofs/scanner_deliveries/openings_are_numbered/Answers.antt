use Rattle.device_laws.proofs.NewestSteps.{numbered_law, whole_numbered}
use Rattle.device_laws.proofs.scanner_deliveries.openings_are_numbered.Goals as goal

pub returns : goal.returns
returns c = record { law = numbered_law; whole = whole_numbered }
