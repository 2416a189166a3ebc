use Rattle.station.proofs.LookWaits.{look_waits}
use Rattle.station.proofs.script.laws.look_waits_are_exact.Goals as goal

pub returns : goal.returns
returns c = look_waits
