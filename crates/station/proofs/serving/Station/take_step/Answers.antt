use Rattle.std.proofs.Common.{◌∙◌, refl, sym}
use Rattle.station.proofs.Living.{took_as, took_last, took_one}
use Rattle.station.proofs.Noting.{at_rest, recorded_on}
use Rattle.station.proofs.Turning.{turn_records}
use Rattle.station.proofs.serving.Station.take_step.Goals as goal

pub returns-in_err-step-clause-recorded : goal.returns-in_err-step-clause-recorded
returns-in_err-step-clause-recorded g c = at_rest (g.W.RecordSink.contents) (g.P.Port.is_scripted) (g.C.Clock.is_scripted) (g.C.Clock.coming) (g.P.Port.tape) (g.P.Port.failed) (g.D.Device.table) _ _ (record { recorder = refl; reset = refl; device = refl; clock = refl; kept = λ sc. refl; worked = refl })

pub returns-in-Some-clause-taken : goal.returns-in-Some-clause-taken
returns-in-Some-clause-taken g c = took_last (g.W.RecordSink.contents) (g.P.Port.is_scripted) (g.C.Clock.is_scripted) (g.C.Clock.coming) (g.P.Port.tape) (g.P.Port.failed) (g.D.Device.table) (g.S.StepSource.gives) c.in_ok-step.step c.in-Some.end _ _ _ _ _ c.now_ms.ensures c.in_ok-step.ensures (sym c.in-Some.is ∙ c.end_of-end.ensures) c.in_ok-perform.ensures.done

pub returns-in_err-turn-in-None-clause-recorded : goal.returns-in_err-turn-in-None-clause-recorded
returns-in_err-turn-in-None-clause-recorded g c = recorded_on (g.W.RecordSink.contents) (g.P.Port.is_scripted) (g.C.Clock.is_scripted) (g.C.Clock.coming) (g.P.Port.tape) (g.P.Port.failed) (g.D.Device.table) _ _ _ c.perform.ensures.recorded (turn_records (g.W.RecordSink.contents) (g.P.Port.is_scripted) (g.C.Clock.is_scripted) (g.C.Clock.coming) (g.P.Port.tape) (g.P.Port.failed) (g.D.Device.table) _ _ c.turn.ensures.turned)

pub returns-in_ok-turn-in-None-clause-recorded : goal.returns-in_ok-turn-in-None-clause-recorded
returns-in_ok-turn-in-None-clause-recorded g c = recorded_on (g.W.RecordSink.contents) (g.P.Port.is_scripted) (g.C.Clock.is_scripted) (g.C.Clock.coming) (g.P.Port.tape) (g.P.Port.failed) (g.D.Device.table) _ _ _ c.perform.ensures.recorded (turn_records (g.W.RecordSink.contents) (g.P.Port.is_scripted) (g.C.Clock.is_scripted) (g.C.Clock.coming) (g.P.Port.tape) (g.P.Port.failed) (g.D.Device.table) _ _ c.turn.ensures.turned)

pub returns-in_ok-turn-in-None-clause-taken : goal.returns-in_ok-turn-in-None-clause-taken
returns-in_ok-turn-in-None-clause-taken g c =
    took_as (g.W.RecordSink.contents) (g.P.Port.is_scripted) (g.C.Clock.is_scripted) (g.C.Clock.coming) (g.P.Port.tape) (g.P.Port.failed) (g.D.Device.table) (g.S.StepSource.gives) _ _ _ _ _ _ (sym c.reset_end.ensures)
    (took_one (g.W.RecordSink.contents) (g.P.Port.is_scripted) (g.C.Clock.is_scripted) (g.C.Clock.coming) (g.P.Port.tape) (g.P.Port.failed) (g.D.Device.table) (g.S.StepSource.gives) c.in_ok-step.step _ _ _ _ _ _ c.now_ms.ensures c.in_ok-step.ensures (sym c.in-None.is ∙ c.end_of-end.ensures) c.in_ok-perform.ensures.done c.in_ok-turn-in-None.ensures.went)
