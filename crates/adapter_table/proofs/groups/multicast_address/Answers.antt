use Rattle.std.proofs.Common.{rules}
use Rattle.adapter_table.proofs.groups.multicast_address.Goals as goal

pub returns : goal.returns
returns c = search rules
