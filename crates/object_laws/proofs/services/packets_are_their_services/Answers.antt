use Rattle.object_laws.proofs.PacketLaws.{packets_are}
use Rattle.object_laws.proofs.services.packets_are_their_services.Goals as goal

pub returns : goal.returns
returns c = packets_are
