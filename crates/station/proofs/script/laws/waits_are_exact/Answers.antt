use Rattle.station.proofs.Waits.{exact}
use Rattle.station.proofs.script.laws.waits_are_exact.Goals as goal

pub returns : goal.returns
returns c = exact
