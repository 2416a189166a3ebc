use Rattle.std.proofs.Common.{refl}
use Rattle.station.proofs.Turning.{turn_made, went_made}
use Rattle.station.proofs.serving.Station.wait_and_step.Goals as goal

pub returns-clause-turned : goal.returns-clause-turned
returns-clause-turned g c =
    turn_made (g.W.RecordSink.contents) (g.P.Port.is_scripted) (g.C.Clock.is_scripted) (g.C.Clock.coming) (g.P.Port.tape) (g.P.Port.failed) (g.D.Device.table) _ _ _ c.turn_in_time-made.result
    c.go_on_after_turn.ensures.rests c.turn_in_time-made.ensures.run c.turn_in_time-made.ensures.times_ms

pub returns-clause-went : goal.returns-clause-went
returns-clause-went g c =
    went_made (g.W.RecordSink.contents) (g.P.Port.is_scripted) (g.C.Clock.is_scripted) (g.C.Clock.coming) (g.P.Port.tape) (g.P.Port.failed) (g.D.Device.table) _ _ _ _ _ c.turn_in_time-made.result
    (turn_made (g.W.RecordSink.contents) (g.P.Port.is_scripted) (g.C.Clock.is_scripted) (g.C.Clock.coming) (g.P.Port.tape) (g.P.Port.failed) (g.D.Device.table) _ _ _ c.turn_in_time-made.result
    c.go_on_after_turn.ensures.rests c.turn_in_time-made.ensures.run c.turn_in_time-made.ensures.times_ms)
    refl c.go_on_after_turn.ensures.counted
