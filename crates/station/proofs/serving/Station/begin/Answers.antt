use Rattle.station.specs.Lives.{starts_of}
use Rattle.station.proofs.Living.{on_ok, rested_then}
use Rattle.station.proofs.Noting.{at_rest, recorded_on}
use Rattle.station.proofs.serving.Station.begin.Goals as goal

pub returns-in_err-show-clause-recorded : goal.returns-in_err-show-clause-recorded
returns-in_err-show-clause-recorded g c = at_rest (g.W.RecordSink.contents) (g.P.Port.is_scripted) (g.C.Clock.is_scripted) (g.C.Clock.coming) (g.P.Port.tape) (g.P.Port.failed) (g.D.Device.table) _ _ c.show.ensures

pub returns-clause-recorded : goal.returns-clause-recorded
returns-clause-recorded g c = recorded_on (g.W.RecordSink.contents) (g.P.Port.is_scripted) (g.C.Clock.is_scripted) (g.C.Clock.coming) (g.P.Port.tape) (g.P.Port.failed) (g.D.Device.table) _ _ _ (at_rest (g.W.RecordSink.contents) (g.P.Port.is_scripted) (g.C.Clock.is_scripted) (g.C.Clock.coming) (g.P.Port.tape) (g.P.Port.failed) (g.D.Device.table) _ _ c.show.ensures) c.start.ensures.recorded

pub returns-clause-begun : goal.returns-clause-begun
returns-clause-begun g c = on_ok _ _ _ (rested_then (g.W.RecordSink.contents) (g.P.Port.is_scripted) (g.C.Clock.is_scripted) (g.C.Clock.coming) (g.P.Port.tape) (g.P.Port.failed) (g.D.Device.table) (starts_of c.args.slots) _ _ _ c.show.ensures) c.start.ensures.started
