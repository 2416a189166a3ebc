use Rattle.station.proofs.Exactness.{all_exact}
use Rattle.station.proofs.exact.tasks_are_exact.Goals as goal

pub returns : goal.returns
returns g c = all_exact (g.W.RecordSink.contents) (g.P.Port.is_scripted) (g.C.Clock.is_scripted) (g.C.Clock.coming) (g.P.Port.tape) (g.P.Port.failed) (g.D.Device.table) c.args.before.now c.args.after.now
