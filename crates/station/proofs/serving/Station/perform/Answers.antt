use Rattle.std.proofs.Common.{[], ◌∷◌, ap, refl}
use Rattle.station.specs.Lives.{number_of, tasks_of}
use Rattle.station.specs.Recorded.Task.{Rest}
use Rattle.station.proofs.Living.{always, done_as, rested}
use Rattle.station.proofs.Noting.{at_rest}
use Rattle.station.proofs.serving.Station.perform.Goals as goal

pub returns-in-Status-clause-recorded : goal.returns-in-Status-clause-recorded
returns-in-Status-clause-recorded g c = at_rest (g.W.RecordSink.contents) (g.P.Port.is_scripted) (g.C.Clock.is_scripted) (g.C.Clock.coming) (g.P.Port.tape) (g.P.Port.failed) (g.D.Device.table) _ _ c.print_status.ensures

pub returns-in-Status-clause-done : goal.returns-in-Status-clause-done
returns-in-Status-clause-done g c = always _ _ (done_as (g.W.RecordSink.contents) (g.P.Port.is_scripted) (g.C.Clock.is_scripted) (g.C.Clock.coming) (g.P.Port.tape) (g.P.Port.failed) (g.D.Device.table) (Rest ∷ []) _ _ _ (ap (tasks_of (number_of c.args.self.now)) c.in-Status.is) (rested (g.W.RecordSink.contents) (g.P.Port.is_scripted) (g.C.Clock.is_scripted) (g.C.Clock.coming) (g.P.Port.tape) (g.P.Port.failed) (g.D.Device.table) _ _ c.print_status.ensures))

pub returns-in-NoCall-clause-recorded : goal.returns-in-NoCall-clause-recorded
returns-in-NoCall-clause-recorded g c = at_rest (g.W.RecordSink.contents) (g.P.Port.is_scripted) (g.C.Clock.is_scripted) (g.C.Clock.coming) (g.P.Port.tape) (g.P.Port.failed) (g.D.Device.table) _ _ c.report_line.ensures

pub returns-in-NoCall-clause-done : goal.returns-in-NoCall-clause-done
returns-in-NoCall-clause-done g c = always _ _ (done_as (g.W.RecordSink.contents) (g.P.Port.is_scripted) (g.C.Clock.is_scripted) (g.C.Clock.coming) (g.P.Port.tape) (g.P.Port.failed) (g.D.Device.table) (Rest ∷ []) _ _ _ (ap (tasks_of (number_of c.args.self.now)) c.in-NoCall.is) (rested (g.W.RecordSink.contents) (g.P.Port.is_scripted) (g.C.Clock.is_scripted) (g.C.Clock.coming) (g.P.Port.tape) (g.P.Port.failed) (g.D.Device.table) _ _ c.report_line.ensures))

pub returns-in-Order-clause-recorded : goal.returns-in-Order-clause-recorded
returns-in-Order-clause-recorded g c = at_rest (g.W.RecordSink.contents) (g.P.Port.is_scripted) (g.C.Clock.is_scripted) (g.C.Clock.coming) (g.P.Port.tape) (g.P.Port.failed) (g.D.Device.table) _ _ c.order.ensures

pub returns-in-Order-clause-done : goal.returns-in-Order-clause-done
returns-in-Order-clause-done g c = always _ _ (done_as (g.W.RecordSink.contents) (g.P.Port.is_scripted) (g.C.Clock.is_scripted) (g.C.Clock.coming) (g.P.Port.tape) (g.P.Port.failed) (g.D.Device.table) (Rest ∷ []) _ _ _ (ap (tasks_of (number_of c.args.self.now)) c.in-Order.is) (rested (g.W.RecordSink.contents) (g.P.Port.is_scripted) (g.C.Clock.is_scripted) (g.C.Clock.coming) (g.P.Port.tape) (g.P.Port.failed) (g.D.Device.table) _ _ c.order.ensures))

pub returns-in-Wait-clause-recorded : goal.returns-in-Wait-clause-recorded
returns-in-Wait-clause-recorded g c = at_rest (g.W.RecordSink.contents) (g.P.Port.is_scripted) (g.C.Clock.is_scripted) (g.C.Clock.coming) (g.P.Port.tape) (g.P.Port.failed) (g.D.Device.table) _ _ (record { recorder = refl; reset = refl; device = refl; clock = refl; kept = λ sc. refl; worked = refl })

pub returns-in-Wait-clause-done : goal.returns-in-Wait-clause-done
returns-in-Wait-clause-done g c = done_as (g.W.RecordSink.contents) (g.P.Port.is_scripted) (g.C.Clock.is_scripted) (g.C.Clock.coming) (g.P.Port.tape) (g.P.Port.failed) (g.D.Device.table) (Rest ∷ []) _ _ _ (ap (tasks_of (number_of c.args.self.now)) c.in-Wait.is) (rested (g.W.RecordSink.contents) (g.P.Port.is_scripted) (g.C.Clock.is_scripted) (g.C.Clock.coming) (g.P.Port.tape) (g.P.Port.failed) (g.D.Device.table) _ _ (record { recorder = refl; reset = refl; device = refl; clock = refl; kept = λ sc. refl; worked = refl }))

pub returns-in-End-clause-recorded : goal.returns-in-End-clause-recorded
returns-in-End-clause-recorded g c = at_rest (g.W.RecordSink.contents) (g.P.Port.is_scripted) (g.C.Clock.is_scripted) (g.C.Clock.coming) (g.P.Port.tape) (g.P.Port.failed) (g.D.Device.table) _ _ c.report_end.ensures

pub returns-in-End-clause-done : goal.returns-in-End-clause-done
returns-in-End-clause-done g c = always _ _ (done_as (g.W.RecordSink.contents) (g.P.Port.is_scripted) (g.C.Clock.is_scripted) (g.C.Clock.coming) (g.P.Port.tape) (g.P.Port.failed) (g.D.Device.table) (Rest ∷ []) _ _ _ (ap (tasks_of (number_of c.args.self.now)) c.in-End.is) (rested (g.W.RecordSink.contents) (g.P.Port.is_scripted) (g.C.Clock.is_scripted) (g.C.Clock.coming) (g.P.Port.tape) (g.P.Port.failed) (g.D.Device.table) _ _ c.report_end.ensures))

pub returns-in-Say-clause-recorded : goal.returns-in-Say-clause-recorded
returns-in-Say-clause-recorded g c = at_rest (g.W.RecordSink.contents) (g.P.Port.is_scripted) (g.C.Clock.is_scripted) (g.C.Clock.coming) (g.P.Port.tape) (g.P.Port.failed) (g.D.Device.table) _ _ c.print_said.ensures

pub returns-in-Say-clause-done : goal.returns-in-Say-clause-done
returns-in-Say-clause-done g c = always _ _ (done_as (g.W.RecordSink.contents) (g.P.Port.is_scripted) (g.C.Clock.is_scripted) (g.C.Clock.coming) (g.P.Port.tape) (g.P.Port.failed) (g.D.Device.table) (Rest ∷ []) _ _ _ (ap (tasks_of (number_of c.args.self.now)) c.in-Say.is) (rested (g.W.RecordSink.contents) (g.P.Port.is_scripted) (g.C.Clock.is_scripted) (g.C.Clock.coming) (g.P.Port.tape) (g.P.Port.failed) (g.D.Device.table) _ _ c.print_said.ensures))

pub returns-in-Numbers-clause-recorded : goal.returns-in-Numbers-clause-recorded
returns-in-Numbers-clause-recorded g c = at_rest (g.W.RecordSink.contents) (g.P.Port.is_scripted) (g.C.Clock.is_scripted) (g.C.Clock.coming) (g.P.Port.tape) (g.P.Port.failed) (g.D.Device.table) _ _ c.print_numbers.ensures

pub returns-in-Numbers-clause-done : goal.returns-in-Numbers-clause-done
returns-in-Numbers-clause-done g c = always _ _ (done_as (g.W.RecordSink.contents) (g.P.Port.is_scripted) (g.C.Clock.is_scripted) (g.C.Clock.coming) (g.P.Port.tape) (g.P.Port.failed) (g.D.Device.table) (Rest ∷ []) _ _ _ (ap (tasks_of (number_of c.args.self.now)) c.in-Numbers.is) (rested (g.W.RecordSink.contents) (g.P.Port.is_scripted) (g.C.Clock.is_scripted) (g.C.Clock.coming) (g.P.Port.tape) (g.P.Port.failed) (g.D.Device.table) _ _ c.print_numbers.ensures))
