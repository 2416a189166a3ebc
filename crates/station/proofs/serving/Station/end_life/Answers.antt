use Rattle.std.proofs.Common.{refl}
use Rattle.station.proofs.Noting.{at_rest}
use Rattle.station.proofs.serving.Station.end_life.Goals as goal

pub returns-in-Restart-clause-recorded : goal.returns-in-Restart-clause-recorded
returns-in-Restart-clause-recorded g c = at_rest (g.W.RecordSink.contents) (g.P.Port.is_scripted) (g.C.Clock.is_scripted) (g.C.Clock.coming) (g.P.Port.tape) (g.P.Port.failed) (g.D.Device.table) _ _ (record { recorder = refl; reset = refl; device = refl; clock = refl; kept = λ sc. refl; worked = refl })
