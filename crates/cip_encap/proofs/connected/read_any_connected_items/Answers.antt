use Rattle.std.proofs.Common.{rules}
use Rattle.cip_encap.specs.AnyItems.{any_connected_reading}
use Rattle.cip_encap.proofs.connected.read_any_connected_items.Goals as goal

pub returns : goal.returns
unfolding any_connected_reading
returns c = search rules
