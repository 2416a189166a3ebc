use Rattle.std.proofs.Common.{rules}
use Rattle.cip_router.proofs.command.Command.is_silent.Goals as goal

pub returns-in-ListServices : goal.returns-in-ListServices
returns-in-ListServices c = search rules
