use Rattle.std.proofs.Common.{rules}
use Rattle.cip_netparams.proofs.rate.api_of.Goals as goal

pub returns-clause-value : goal.returns-clause-value
returns-clause-value c = search rules

pub returns-clause-least : goal.returns-clause-least
returns-clause-least c = search rules
