use Rattle.std.proofs.Common.{[], ◌∷◌, refl}
use Rattle.station.specs.Lives.{turns_of}
use Rattle.station.specs.Recorded.Task.{Turn}
use Rattle.station.proofs.Living.{done_as, one_turn, turned}
use Rattle.station.proofs.Noting.{at_rest, does_on, recorded_on}
use Rattle.station.proofs.Turning.{turn_records}
use Rattle.station.proofs.serving.Station.wait_closed.Goals as goal

pub loop-init : goal.loop-init
loop-init g c = record {
  recorded = at_rest (g.W.RecordSink.contents) (g.P.Port.is_scripted) (g.C.Clock.is_scripted) (g.C.Clock.coming) (g.P.Port.tape) (g.P.Port.failed) (g.D.Device.table) _ _ (record { recorder = refl; reset = refl; device = refl; clock = refl; kept = λ sc. refl; worked = refl });
  turned = refl;
}

pub loop-preserved : goal.loop-preserved
loop-preserved g c = record {
  recorded = recorded_on (g.W.RecordSink.contents) (g.P.Port.is_scripted) (g.C.Clock.is_scripted) (g.C.Clock.coming) (g.P.Port.tape) (g.P.Port.failed) (g.D.Device.table) _ _ _ c.loop.invariant.recorded (turn_records (g.W.RecordSink.contents) (g.P.Port.is_scripted) (g.C.Clock.is_scripted) (g.C.Clock.coming) (g.P.Port.tape) (g.P.Port.failed) (g.D.Device.table) _ _ c.turn.ensures.turned);
  turned = done_as (g.W.RecordSink.contents) (g.P.Port.is_scripted) (g.C.Clock.is_scripted) (g.C.Clock.coming) (g.P.Port.tape) (g.P.Port.failed) (g.D.Device.table) _ _ _ _ (one_turn c.loop.counter) (does_on (g.W.RecordSink.contents) (g.P.Port.is_scripted) (g.C.Clock.is_scripted) (g.C.Clock.coming) (g.P.Port.tape) (g.P.Port.failed) (g.D.Device.table) _ _ _ (turns_of c.loop.counter) (Turn ∷ []) c.loop.invariant.turned (turned (g.W.RecordSink.contents) (g.P.Port.is_scripted) (g.C.Clock.is_scripted) (g.C.Clock.coming) (g.P.Port.tape) (g.P.Port.failed) (g.D.Device.table) _ _ c.in_ok-turn.ensures.went));
}

pub returns-in_err-turn-clause-recorded : goal.returns-in_err-turn-clause-recorded
returns-in_err-turn-clause-recorded g c = recorded_on (g.W.RecordSink.contents) (g.P.Port.is_scripted) (g.C.Clock.is_scripted) (g.C.Clock.coming) (g.P.Port.tape) (g.P.Port.failed) (g.D.Device.table) _ _ _ c.loop.invariant.recorded (turn_records (g.W.RecordSink.contents) (g.P.Port.is_scripted) (g.C.Clock.is_scripted) (g.C.Clock.coming) (g.P.Port.tape) (g.P.Port.failed) (g.D.Device.table) _ _ c.turn.ensures.turned)

pub returns-then-not-waits_on-clause-recorded : goal.returns-then-not-waits_on-clause-recorded
returns-then-not-waits_on-clause-recorded g c = c.loop.invariant.recorded

pub returns-then-not-waits_on-clause-turned : goal.returns-then-not-waits_on-clause-turned
returns-then-not-waits_on-clause-turned g c = record { count = c.loop.counter; does = c.loop.invariant.turned }

pub returns-clause-recorded : goal.returns-clause-recorded
returns-clause-recorded g c = c.loop.invariant.recorded
