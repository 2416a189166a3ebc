use Rattle.device_laws.proofs.RisingNumbers.{requests_rise}
use Rattle.device_laws.proofs.scanner_openings.request_numbers_rise.Goals as goal

pub returns : goal.returns
returns c = requests_rise
