use Rattle.std.proofs.Common.{rules}
use Rattle.cip_types.proofs.items.ItemsPartialEq.eq.Goals as goal

pub returns : goal.returns
returns g c = search rules
