use Rattle.std.proofs.Common.{rules}
use Rattle.messaging.proofs.class3.Class3Connection.repeats_last.Goals as goal

pub returns-in-Some : goal.returns-in-Some
returns-in-Some c = search rules
