use Rattle.std.proofs.Common.{◌∙◌}
use Rattle.std.proofs.lemmas.Result.{IfOk-weaker}
use Rattle.station_setup.proofs.opening.stations.watched_station.Goals as goal

pub returns : goal.returns
returns g c = IfOk-weaker c.new.result _ _ (λ station same. same ∙ c.in_ok-observer.ensures) c.new.ensures.recorder
