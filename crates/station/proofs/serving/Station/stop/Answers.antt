use Rattle.std.proofs.Common.{◌≡◌, arith, refl}
use Rattle.cip_events.specs.declared.event.Event.TheVariants as event
use Rattle.station.specs.Lives.{called, stops_of}
use Rattle.station.proofs.Living.{done_as, one_stop}
use Rattle.station.proofs.Noting.{at_rest, does_on, recorded_on}
use Rattle.station.proofs.serving.Station.stop.Goals as goal

pub loop-slot-init : goal.loop-slot-init
loop-slot-init g c = record {
  recorded = at_rest (g.W.RecordSink.contents) (g.P.Port.is_scripted) (g.C.Clock.is_scripted) (g.C.Clock.coming) (g.P.Port.tape) (g.P.Port.failed) (g.D.Device.table) _ _ (record { recorder = refl; reset = refl; device = refl; clock = refl; kept = λ sc. refl; worked = refl });
  requested = refl;
}

pub loop-slot-preserved : goal.loop-slot-preserved
loop-slot-preserved g c = record {
  recorded = recorded_on (g.W.RecordSink.contents) (g.P.Port.is_scripted) (g.C.Clock.is_scripted) (g.C.Clock.coming) (g.P.Port.tape) (g.P.Port.failed) (g.D.Device.table) _ _ _ c.loop-slot.invariant.recorded c.act.ensures.recorded;
  requested = done_as (g.W.RecordSink.contents) (g.P.Port.is_scripted) (g.C.Clock.is_scripted) (g.C.Clock.coming) (g.P.Port.tape) (g.P.Port.failed) (g.D.Device.table) _ _ _ _ (one_stop c.loop-slot.slot) (does_on (g.W.RecordSink.contents) (g.P.Port.is_scripted) (g.C.Clock.is_scripted) (g.C.Clock.coming) (g.P.Port.tape) (g.P.Port.failed) (g.D.Device.table) _ _ _ (stops_of c.loop-slot.slot) (called (event.Stop c.loop-slot.slot)) c.loop-slot.invariant.requested c.in_ok-act.ensures.called);
}

pub returns-in_err-act-clause-recorded : goal.returns-in_err-act-clause-recorded
returns-in_err-act-clause-recorded g c = recorded_on (g.W.RecordSink.contents) (g.P.Port.is_scripted) (g.C.Clock.is_scripted) (g.C.Clock.coming) (g.P.Port.tape) (g.P.Port.failed) (g.D.Device.table) _ _ _ c.loop-slot.invariant.recorded c.act.ensures.recorded

pub returns-clause-recorded : goal.returns-clause-recorded
returns-clause-recorded g c = c.loop-slot.invariant.recorded

pub returns-clause-stopped : goal.returns-clause-stopped
returns-clause-stopped g c =
    let all : c.loop-slot.slot ≡ c.args.slots = omega arith in
    rw (← all) c.loop-slot.invariant.requested
