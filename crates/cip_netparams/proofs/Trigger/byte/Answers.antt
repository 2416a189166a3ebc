use Rattle.std.proofs.Common.{rules}
use Rattle.cip_netparams.proofs.Trigger.byte.Goals as goal

pub returns-in-ChangeOfState-clause-value : goal.returns-in-ChangeOfState-clause-value
returns-in-ChangeOfState-clause-value c = search rules

pub returns-in-ChangeOfState-clause-is_byte : goal.returns-in-ChangeOfState-clause-is_byte
returns-in-ChangeOfState-clause-is_byte c = search rules

pub returns-in-ChangeOfState-clause-read_back : goal.returns-in-ChangeOfState-clause-read_back
returns-in-ChangeOfState-clause-read_back c = search rules
