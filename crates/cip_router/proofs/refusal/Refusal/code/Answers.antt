use Rattle.std.proofs.Common.{rules}
use Rattle.cip_router.proofs.refusal.Refusal.code.Goals as goal

pub returns-in-Ownership : goal.returns-in-Ownership
returns-in-Ownership c = search rules
