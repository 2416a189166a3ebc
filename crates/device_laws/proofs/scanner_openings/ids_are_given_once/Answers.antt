use Rattle.device_laws.proofs.RisingNumbers.{ids_given_once}
use Rattle.device_laws.proofs.scanner_openings.ids_are_given_once.Goals as goal

pub returns : goal.returns
returns c = ids_given_once
