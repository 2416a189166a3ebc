use Rattle.std.proofs.Common.{◌≡◌, ◌∙◌, ap, sym}
use Rattle.station_lines.specs.Attributes.Calls.{call_event}
use Rattle.station.specs.Lives.{called, number_of}
use Rattle.station.proofs.Living.{done_as, on_ok}
use Rattle.station.proofs.serving.Station.ask.Goals as goal

pub returns-clause-requested : goal.returns-clause-requested
returns-clause-requested g c =
    let same : c.in_ok-event.event ≡ call_event (number_of c.args.self.now) c.args.call.now = c.in_ok-event.ensures ∙ ap (λ n. call_event n c.args.call.now) c.next_explicit.ensures in
    on_ok _ _ _ (done_as (g.W.RecordSink.contents) (g.P.Port.is_scripted) (g.C.Clock.is_scripted) (g.C.Clock.coming) (g.P.Port.tape) (g.P.Port.failed) (g.D.Device.table) (called c.in_ok-event.event) _ _ _ (ap called (sym same))) c.act.ensures.called
