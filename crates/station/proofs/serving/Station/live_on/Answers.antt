use Rattle.station.proofs.Living.{if_ok, took_all}
use Rattle.station.proofs.Noting.{recorded_on}
use Rattle.station.proofs.serving.Station.live_on.Goals as goal

pub returns-clause-recorded : goal.returns-clause-recorded
returns-clause-recorded g c = recorded_on (g.W.RecordSink.contents) (g.P.Port.is_scripted) (g.C.Clock.is_scripted) (g.C.Clock.coming) (g.P.Port.tape) (g.P.Port.failed) (g.D.Device.table) _ _ _ c.begin.ensures.recorded c.take_steps.ensures.recorded

pub returns-clause-lived : goal.returns-clause-lived
returns-clause-lived g c = if_ok _ _ _ (λ end. took_all (g.W.RecordSink.contents) (g.P.Port.is_scripted) (g.C.Clock.is_scripted) (g.C.Clock.coming) (g.P.Port.tape) (g.P.Port.failed) (g.D.Device.table) (g.S.StepSource.gives) c.args.slots end _ _ _ _ _ c.in_ok-begin.ensures.begun) c.take_steps.ensures.taken
