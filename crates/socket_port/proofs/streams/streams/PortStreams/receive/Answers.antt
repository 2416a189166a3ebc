use Rattle.std.proofs.Common.{ap, ◌∙◌, Some}
use Rattle.socket_port.specs.Streams.Slots.{ended_at}
use Rattle.socket_port.proofs.Putting.{receives_put, on_err_map, on_ok_map, put_again}
use Rattle.socket_port.proofs.streams.streams.PortStreams.receive.Goals as goal

pub returns-clause-received : goal.returns-clause-received
returns-clause-received g c = on_ok_map c.receive-received.result _ _ (λ received. receives_put _ _ _ _ _ _ _ c.take.ensures.left c.put.ensures c.in-Some.ensures.taken received) c.receive-received.ensures.received

pub returns-clause-err : goal.returns-clause-err
returns-clause-err g c = on_err_map c.receive-received.result _ _ (λ same. put_again _ _ _ _ _ _ _ c.take.ensures.left c.put.ensures (ap Some same ∙ ap ended_at c.in-Some.ensures.taken)) c.receive-received.ensures.err
