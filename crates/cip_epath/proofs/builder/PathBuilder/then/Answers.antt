use Rattle.std.proofs.Common.{rules}
use Rattle.cip_epath.proofs.builder.PathBuilder.then.Goals as goal

pub returns-in-One : goal.returns-in-One
returns-in-One c = search rules
