use Rattle.socket_port.proofs.Putting.{sends_put}
use Rattle.socket_port.proofs.streams.streams.PortStreams.send.Goals as goal

pub returns : goal.returns
returns g c = sends_put g.S.Write.contents _ _ _ _ _ _ _ c.take.ensures.left c.put.ensures c.in-Some.ensures.taken c.send.ensures
