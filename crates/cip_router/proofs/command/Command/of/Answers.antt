use Rattle.std.proofs.Common.{rules}
use Rattle.cip_router.proofs.command.Command.of.Goals as goal

pub returns-in-102 : goal.returns-in-102
returns-in-102 c = search rules
