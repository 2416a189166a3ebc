use Rattle.station.proofs.Living.{always, called_then}
use Rattle.station.proofs.Noting.{recorded_then}
use Rattle.station.proofs.serving.Station.act.Goals as goal

pub returns-clause-recorded : goal.returns-clause-recorded
returns-clause-recorded g c = recorded_then (g.W.RecordSink.contents) (g.P.Port.is_scripted) (g.C.Clock.is_scripted) (g.C.Clock.coming) (g.P.Port.tape) (g.P.Port.failed) (g.D.Device.table) _ _ _ c.step_and_send.ensures.recorded c.show.ensures

pub returns-clause-called : goal.returns-clause-called
returns-clause-called g c = always _ _ (called_then (g.W.RecordSink.contents) (g.P.Port.is_scripted) (g.C.Clock.is_scripted) (g.C.Clock.coming) (g.P.Port.tape) (g.P.Port.failed) (g.D.Device.table) c.args.event.now _ _ _ c.in_ok-step_and_send.ensures.called c.show.ensures)
