use Rattle.std.proofs.Common.{ap}
use Rattle.cip_events.specs.Outputs.{close_outputs}
use Rattle.cip_events.proofs.Sent.{sends_one}
use Rattle.cip_events.proofs.sending.NoticeAnswerPart.send.Goals as goal

pub returns-in-StreamClosed : goal.returns-in-StreamClosed
returns-in-StreamClosed g c = sends_one (g.O.Outlet.is_ready) (g.O.Outlet.sends c.args.outlet.now) (g.O.Outlet.fails c.args.outlet.now) _ _ _ _ c.close.result (ap close_outputs c.in-StreamClosed.is) c.close.ensures
