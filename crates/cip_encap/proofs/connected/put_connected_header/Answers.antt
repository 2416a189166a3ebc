use Rattle.std.proofs.Common.{arith}
use Rattle.std.proofs.lemmas.Grind.{common_steps}
use Rattle.cip_encap.proofs.connected.put_connected_header.Goals as goal

pub returns : goal.returns
returns c = grind (arith, common_steps)
