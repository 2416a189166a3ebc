use Rattle.std.proofs.Common.{rules}
use Rattle.cip_events.proofs.profile_fault.ProfileFault.number.Goals as goal

pub returns-in-Points : goal.returns-in-Points
returns-in-Points c = search rules
