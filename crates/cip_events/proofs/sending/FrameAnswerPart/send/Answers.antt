use Rattle.cip_events.proofs.Sent.{sends_one}
use Rattle.cip_events.proofs.sending.FrameAnswerPart.send.Goals as goal

pub returns-in-Stream : goal.returns-in-Stream
returns-in-Stream g c = sends_one (g.O.Outlet.is_ready) (g.O.Outlet.sends c.args.outlet.now) (g.O.Outlet.fails c.args.outlet.now) _ _ _ _ c.message.result (rw (c.in-Stream.is, c.as_slice.ensures)) c.message.ensures
