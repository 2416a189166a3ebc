use Rattle.std.proofs.Common.{rules}
use Rattle.cip_router.proofs.reply.Reply.write.Goals as goal

pub returns-in-Opened : goal.returns-in-Opened
returns-in-Opened c = search rules
