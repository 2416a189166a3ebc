use Rattle.station.proofs.Living.{all_closed, on_ok}
use Rattle.station.proofs.Noting.{ended_or_broken, recorded_on}
use Rattle.station.proofs.serving.Station.close.Goals as goal

pub returns-in_err-stop-clause-recorded : goal.returns-in_err-stop-clause-recorded
returns-in_err-stop-clause-recorded g c = recorded_on (g.W.RecordSink.contents) (g.P.Port.is_scripted) (g.C.Clock.is_scripted) (g.C.Clock.coming) (g.P.Port.tape) (g.P.Port.failed) (g.D.Device.table) _ _ _ c.time_out_owners.ensures.recorded c.stop.ensures.recorded

pub returns-in_err-wait_closed-clause-recorded : goal.returns-in_err-wait_closed-clause-recorded
returns-in_err-wait_closed-clause-recorded g c = recorded_on (g.W.RecordSink.contents) (g.P.Port.is_scripted) (g.C.Clock.is_scripted) (g.C.Clock.coming) (g.P.Port.tape) (g.P.Port.failed) (g.D.Device.table) _ _ _ (recorded_on (g.W.RecordSink.contents) (g.P.Port.is_scripted) (g.C.Clock.is_scripted) (g.C.Clock.coming) (g.P.Port.tape) (g.P.Port.failed) (g.D.Device.table) _ _ _ c.time_out_owners.ensures.recorded c.stop.ensures.recorded) c.wait_closed.ensures.recorded

pub returns-clause-recorded : goal.returns-clause-recorded
returns-clause-recorded g c =
    recorded_on (g.W.RecordSink.contents) (g.P.Port.is_scripted) (g.C.Clock.is_scripted) (g.C.Clock.coming) (g.P.Port.tape) (g.P.Port.failed) (g.D.Device.table) _ _ _ (recorded_on (g.W.RecordSink.contents) (g.P.Port.is_scripted) (g.C.Clock.is_scripted) (g.C.Clock.coming) (g.P.Port.tape) (g.P.Port.failed) (g.D.Device.table) _ _ _ (recorded_on (g.W.RecordSink.contents) (g.P.Port.is_scripted) (g.C.Clock.is_scripted) (g.C.Clock.coming) (g.P.Port.tape) (g.P.Port.failed) (g.D.Device.table) _ _ _ c.time_out_owners.ensures.recorded c.stop.ensures.recorded) c.wait_closed.ensures.recorded)
    (ended_or_broken (g.W.RecordSink.contents) (g.P.Port.is_scripted) (g.C.Clock.is_scripted) (g.C.Clock.coming) (g.P.Port.tape) (g.P.Port.failed) (g.D.Device.table) _ _ c.unregister.result c.unregister.ensures.unstepped c.unregister.ensures.ended)

pub returns-clause-closed : goal.returns-clause-closed
returns-clause-closed g c =
    on_ok _ _ _
    (all_closed (g.W.RecordSink.contents) (g.P.Port.is_scripted) (g.C.Clock.is_scripted) (g.C.Clock.coming) (g.P.Port.tape) (g.P.Port.failed) (g.D.Device.table) c.args.slots _ _ _ _ _ c.in_ok-time_out_owners.ensures.aged c.in_ok-stop.ensures.stopped c.in_ok-wait_closed.ensures.turned c.unregister.ensures.unstepped)
    c.unregister.ensures.ended
