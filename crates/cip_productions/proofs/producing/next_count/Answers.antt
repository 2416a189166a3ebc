use Rattle.std.proofs.Common.{rules}
use Rattle.cip_productions.proofs.producing.next_count.Goals as goal

pub returns-then-production : goal.returns-then-production
returns-then-production c = search rules
