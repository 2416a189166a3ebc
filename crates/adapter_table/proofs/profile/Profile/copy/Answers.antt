use Rattle.std.proofs.Common.{rules}
use Rattle.adapter_table.proofs.profile.Profile.copy.Goals as goal

pub returns : goal.returns
returns c = search rules
