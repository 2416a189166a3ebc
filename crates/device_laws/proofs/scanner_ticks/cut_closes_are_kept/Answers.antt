use Rattle.device_laws.proofs.CutCloses.{closes_kept}
use Rattle.device_laws.proofs.scanner_ticks.cut_closes_are_kept.Goals as goal

pub returns : goal.returns
returns c = closes_kept
