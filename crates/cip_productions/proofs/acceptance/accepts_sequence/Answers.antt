use Rattle.std.proofs.Common.{rules}
use Rattle.cip_productions.proofs.acceptance.accepts_sequence.Goals as goal

pub returns-in-Some : goal.returns-in-Some
returns-in-Some c = search rules
