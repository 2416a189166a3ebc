use Rattle.std.proofs.Common.{refl}
use Rattle.station.proofs.Living.{takes_all, took_as, took_more, took_none}
use Rattle.station.proofs.Noting.{at_rest, recorded_on}
use Rattle.station.proofs.serving.Station.take_steps.Goals as goal

pub loop-init : goal.loop-init
loop-init g c = record {
  recorded = at_rest (g.W.RecordSink.contents) (g.P.Port.is_scripted) (g.C.Clock.is_scripted) (g.C.Clock.coming) (g.P.Port.tape) (g.P.Port.failed) (g.D.Device.table) _ _ (record { recorder = refl; reset = refl; device = refl; clock = refl; kept = λ sc. refl; worked = refl });
  many = took_none (g.W.RecordSink.contents) (g.P.Port.is_scripted) (g.C.Clock.is_scripted) (g.C.Clock.coming) (g.P.Port.tape) (g.P.Port.failed) (g.D.Device.table) (g.S.StepSource.gives) _ _;
}

pub loop-preserved : goal.loop-preserved
loop-preserved g c = record {
  recorded = recorded_on (g.W.RecordSink.contents) (g.P.Port.is_scripted) (g.C.Clock.is_scripted) (g.C.Clock.coming) (g.P.Port.tape) (g.P.Port.failed) (g.D.Device.table) _ _ _ c.loop.invariant.recorded c.take_step.ensures.recorded;
  many = took_more (g.W.RecordSink.contents) (g.P.Port.is_scripted) (g.C.Clock.is_scripted) (g.C.Clock.coming) (g.P.Port.tape) (g.P.Port.failed) (g.D.Device.table) (g.S.StepSource.gives) c.loop.counter _ _ _ _ _ _ c.loop.invariant.many (took_as (g.W.RecordSink.contents) (g.P.Port.is_scripted) (g.C.Clock.is_scripted) (g.C.Clock.coming) (g.P.Port.tape) (g.P.Port.failed) (g.D.Device.table) (g.S.StepSource.gives) _ _ _ _ _ _ c.in_default.is c.in_ok-end.ensures.taken);
}

pub returns-in_err-end-clause-recorded : goal.returns-in_err-end-clause-recorded
returns-in_err-end-clause-recorded g c = recorded_on (g.W.RecordSink.contents) (g.P.Port.is_scripted) (g.C.Clock.is_scripted) (g.C.Clock.coming) (g.P.Port.tape) (g.P.Port.failed) (g.D.Device.table) _ _ _ c.loop.invariant.recorded c.take_step.ensures.recorded

pub returns-clause-recorded : goal.returns-clause-recorded
returns-clause-recorded g c = c.loop.invariant.recorded

pub returns-in-Some-clause-recorded : goal.returns-in-Some-clause-recorded
returns-in-Some-clause-recorded g c = recorded_on (g.W.RecordSink.contents) (g.P.Port.is_scripted) (g.C.Clock.is_scripted) (g.C.Clock.coming) (g.P.Port.tape) (g.P.Port.failed) (g.D.Device.table) _ _ _ c.loop.invariant.recorded c.take_step.ensures.recorded

pub returns-in-Some-clause-taken : goal.returns-in-Some-clause-taken
returns-in-Some-clause-taken g c =
    takes_all (g.W.RecordSink.contents) (g.P.Port.is_scripted) (g.C.Clock.is_scripted) (g.C.Clock.coming) (g.P.Port.tape) (g.P.Port.failed) (g.D.Device.table) (g.S.StepSource.gives) c.loop.counter c.in-Some.end _ _ _ _ _ _ c.loop.invariant.many
    (took_as (g.W.RecordSink.contents) (g.P.Port.is_scripted) (g.C.Clock.is_scripted) (g.C.Clock.coming) (g.P.Port.tape) (g.P.Port.failed) (g.D.Device.table) (g.S.StepSource.gives) _ _ _ _ _ _ c.in-Some.is c.in_ok-end.ensures.taken)
