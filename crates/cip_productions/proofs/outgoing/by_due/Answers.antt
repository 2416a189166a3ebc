use Rattle.std.proofs.Common.{rules}
use Rattle.cip_productions.proofs.outgoing.by_due.Goals as goal

pub returns-then-due-later-2 : goal.returns-then-due-later-2
returns-then-due-later-2 c = search rules
