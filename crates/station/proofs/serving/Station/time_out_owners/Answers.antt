use Rattle.std.proofs.Common.{◌∙◌, arith, refl, sym}
use Rattle.cip_events.specs.Clock.{longest_tick}
use Rattle.cip_events.specs.declared.event.Event.TheVariants as event
use Rattle.station.specs.Lives.{called, ticks_of}
use Rattle.station.proofs.Living.{done_as, one_tick}
use Rattle.station.proofs.Noting.{at_rest, does_on, recorded_on}
use Rattle.station.proofs.serving.Station.time_out_owners.Goals as goal

pub loop-init : goal.loop-init
loop-init g c = record {
  recorded = at_rest (g.W.RecordSink.contents) (g.P.Port.is_scripted) (g.C.Clock.is_scripted) (g.C.Clock.coming) (g.P.Port.tape) (g.P.Port.failed) (g.D.Device.table) _ _ (record { recorder = refl; reset = refl; device = refl; clock = refl; kept = λ sc. refl; worked = refl });
  aged = refl;
}

pub loop-preserved : goal.loop-preserved
loop-preserved g c = record {
  recorded = recorded_on (g.W.RecordSink.contents) (g.P.Port.is_scripted) (g.C.Clock.is_scripted) (g.C.Clock.coming) (g.P.Port.tape) (g.P.Port.failed) (g.D.Device.table) _ _ _ c.loop.invariant.recorded c.act.ensures.recorded;
  aged = done_as (g.W.RecordSink.contents) (g.P.Port.is_scripted) (g.C.Clock.is_scripted) (g.C.Clock.coming) (g.P.Port.tape) (g.P.Port.failed) (g.D.Device.table) _ _ _ _ (one_tick c.loop.counter) (does_on (g.W.RecordSink.contents) (g.P.Port.is_scripted) (g.C.Clock.is_scripted) (g.C.Clock.coming) (g.P.Port.tape) (g.P.Port.failed) (g.D.Device.table) _ _ _ (ticks_of c.loop.counter) (called (event.Tick longest_tick)) c.loop.invariant.aged c.in_ok-act.ensures.called);
}

pub returns-in_err-act-clause-recorded : goal.returns-in_err-act-clause-recorded
returns-in_err-act-clause-recorded g c = recorded_on (g.W.RecordSink.contents) (g.P.Port.is_scripted) (g.C.Clock.is_scripted) (g.C.Clock.coming) (g.P.Port.tape) (g.P.Port.failed) (g.D.Device.table) _ _ _ c.loop.invariant.recorded c.act.ensures.recorded

pub returns-then-not-has_owner-clause-recorded : goal.returns-then-not-has_owner-clause-recorded
returns-then-not-has_owner-clause-recorded g c = c.loop.invariant.recorded

pub returns-then-not-has_owner-clause-aged : goal.returns-then-not-has_owner-clause-aged
returns-then-not-has_owner-clause-aged g c = record {
  count = c.loop.counter;
  few = omega arith;
  does = c.loop.invariant.aged;
  disowned = λ less. sym c.has_owner.ensures ∙ c.if-not-has_owner.true;
}

pub returns-clause-recorded : goal.returns-clause-recorded
returns-clause-recorded g c = c.loop.invariant.recorded

pub returns-clause-aged : goal.returns-clause-aged
returns-clause-aged g c = record {
  count = c.loop.counter;
  few = omega arith;
  does = c.loop.invariant.aged;
  disowned = λ less. absurd (omega (arith, less));
}
