use Rattle.std.proofs.Common.{refl}
use Rattle.station.proofs.Turning.{call_made, call_records, called_made}
use Rattle.station.proofs.serving.Station.step_and_send.Goals as goal

pub returns-clause-recorded : goal.returns-clause-recorded
returns-clause-recorded g c = call_records (g.W.RecordSink.contents) (g.P.Port.is_scripted) (g.C.Clock.is_scripted) (g.C.Clock.coming) (g.P.Port.tape) (g.P.Port.failed) (g.D.Device.table) c.args.event.now _ _ (call_made (g.W.RecordSink.contents) (g.P.Port.is_scripted) (g.P.Port.tape) (g.P.Port.failed) (g.D.Device.table) c.args.event.now _ _ _ c.act-made.result c.go_on_after_call.ensures.rests c.act-made.ensures.run c.act-made.ensures.stepped c.act-made.ensures.refused refl)

pub returns-clause-called : goal.returns-clause-called
returns-clause-called g c = called_made (g.W.RecordSink.contents) (g.P.Port.is_scripted) (g.P.Port.tape) (g.P.Port.failed) (g.D.Device.table) c.args.event.now _ _ _ _ _ c.act-made.result (call_made (g.W.RecordSink.contents) (g.P.Port.is_scripted) (g.P.Port.tape) (g.P.Port.failed) (g.D.Device.table) c.args.event.now _ _ _ c.act-made.result c.go_on_after_call.ensures.rests c.act-made.ensures.run c.act-made.ensures.stepped c.act-made.ensures.refused refl) refl c.go_on_after_call.ensures.counted
