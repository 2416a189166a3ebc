use Rattle.station.proofs.Living.{always}
use Rattle.station.proofs.Turning.{turned_then, went_then}
use Rattle.station.proofs.serving.Station.turn.Goals as goal

pub returns-in_err-inform_port-clause-turned : goal.returns-in_err-inform_port-clause-turned
returns-in_err-inform_port-clause-turned g c = turned_then (g.W.RecordSink.contents) (g.P.Port.is_scripted) (g.C.Clock.is_scripted) (g.C.Clock.coming) (g.P.Port.tape) (g.P.Port.failed) (g.D.Device.table) _ _ _ c.wait_and_step.ensures.turned c.inform_port.ensures

pub returns-clause-turned : goal.returns-clause-turned
returns-clause-turned g c = turned_then (g.W.RecordSink.contents) (g.P.Port.is_scripted) (g.C.Clock.is_scripted) (g.C.Clock.coming) (g.P.Port.tape) (g.P.Port.failed) (g.D.Device.table) _ _ _ (turned_then (g.W.RecordSink.contents) (g.P.Port.is_scripted) (g.C.Clock.is_scripted) (g.C.Clock.coming) (g.P.Port.tape) (g.P.Port.failed) (g.D.Device.table) _ _ _ c.wait_and_step.ensures.turned c.inform_port.ensures) c.show.ensures

pub returns-clause-went : goal.returns-clause-went
returns-clause-went g c = always _ _ (went_then (g.W.RecordSink.contents) (g.P.Port.is_scripted) (g.C.Clock.is_scripted) (g.C.Clock.coming) (g.P.Port.tape) (g.P.Port.failed) (g.D.Device.table) _ _ _ (went_then (g.W.RecordSink.contents) (g.P.Port.is_scripted) (g.C.Clock.is_scripted) (g.C.Clock.coming) (g.P.Port.tape) (g.P.Port.failed) (g.D.Device.table) _ _ _ c.in_ok-wait_and_step.ensures.went c.inform_port.ensures) c.show.ensures)
