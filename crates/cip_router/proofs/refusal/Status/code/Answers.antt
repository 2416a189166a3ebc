use Rattle.std.proofs.Common.{rules}
use Rattle.cip_router.proofs.refusal.Status.code.Goals as goal

pub returns-in-PathDestination : goal.returns-in-PathDestination
returns-in-PathDestination c = search rules
