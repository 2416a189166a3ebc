use Rattle.std.proofs.Common.{ap, ◌∙◌, Some}
use Rattle.socket_port.specs.Streams.Slots.{ended_at}
use Rattle.socket_port.proofs.Putting.{put_again}
use Rattle.socket_port.proofs.streams.streams.PortStreams.end.Goals as goal

pub returns : goal.returns
returns g c = put_again _ _ _ _ _ _ _ c.take.ensures.left c.put.ensures (ap Some c.end.ensures ∙ ap ended_at c.in-Some.ensures.taken)
