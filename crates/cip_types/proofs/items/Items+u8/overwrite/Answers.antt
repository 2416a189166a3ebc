use Rattle.std.proofs.Common.{rules}
use Rattle.cip_types.proofs.items.Items+u8.overwrite.Goals as goal

pub returns : goal.returns
returns c = search rules
