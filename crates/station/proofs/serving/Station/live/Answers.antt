use Rattle.station.proofs.Living.{if_ok, lived_so, ok_of}
use Rattle.station.proofs.Noting.{recorded_on}
use Rattle.station.proofs.serving.Station.live.Goals as goal

pub returns-in-Ok-clause-recorded : goal.returns-in-Ok-clause-recorded
returns-in-Ok-clause-recorded g c = recorded_on (g.W.RecordSink.contents) (g.P.Port.is_scripted) (g.C.Clock.is_scripted) (g.C.Clock.coming) (g.P.Port.tape) (g.P.Port.failed) (g.D.Device.table) _ _ _ c.live_on.ensures.recorded c.end_life.ensures.recorded

pub returns-in-Ok-clause-lived : goal.returns-in-Ok-clause-lived
returns-in-Ok-clause-lived g c =
    if_ok _ _ _
    (λ ended. lived_so (g.W.RecordSink.contents) (g.P.Port.is_scripted) (g.C.Clock.is_scripted) (g.C.Clock.coming) (g.P.Port.tape) (g.P.Port.failed) (g.D.Device.table) (g.S.StepSource.gives) c.args.slots c.in-Ok.end ended _ _ _ _ _ (ok_of _ _ _ c.in-Ok.is c.live_on.ensures.lived))
    c.end_life.ensures.closed

pub returns-in-Err-clause-recorded : goal.returns-in-Err-clause-recorded
returns-in-Err-clause-recorded g c = recorded_on (g.W.RecordSink.contents) (g.P.Port.is_scripted) (g.C.Clock.is_scripted) (g.C.Clock.coming) (g.P.Port.tape) (g.P.Port.failed) (g.D.Device.table) _ _ _ c.live_on.ensures.recorded c.close.ensures.recorded
