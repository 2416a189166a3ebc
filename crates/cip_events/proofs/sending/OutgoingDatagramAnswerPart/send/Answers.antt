use Rattle.std.proofs.Common.{refl}
use Rattle.cip_events.proofs.Sent.{sends_one}
use Rattle.cip_events.proofs.sending.OutgoingDatagramAnswerPart.send.Goals as goal

pub returns : goal.returns
returns g c = sends_one (g.O.Outlet.is_ready) (g.O.Outlet.sends c.args.outlet.now) (g.O.Outlet.fails c.args.outlet.now) _ _ _ _ c.datagram.result refl c.datagram.ensures
