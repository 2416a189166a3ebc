use Rattle.socket_port.proofs.MakingRoom.{owners_stay}
use Rattle.socket_port.proofs.rules.laws.owners_stay.Goals as goal

pub returns : goal.returns
returns c = owners_stay
