use Rattle.std.proofs.Common.{rules}
use Rattle.cip_router.proofs.command.EncapStatus.code.Goals as goal

pub returns-in-InvalidSession-clause-value : goal.returns-in-InvalidSession-clause-value
returns-in-InvalidSession-clause-value c = search rules
