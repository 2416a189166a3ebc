use Rattle.std.proofs.Common.{ap, ◌∙◌}
use Rattle.socket_port.specs.Streams.Slots.{left_at}
use Rattle.socket_port.proofs.Putting.{put_again}
use Rattle.socket_port.proofs.streams.streams.PortStreams.next.Goals as goal

pub returns-clause-left : goal.returns-clause-left
returns-clause-left g c = put_again _ _ _ _ _ _ _ c.take.ensures.left c.put.ensures (c.next-given.ensures.left ∙ ap left_at c.in_ok-port_stream.ensures.taken)
