use Rattle.std.proofs.Common.{rules}
use Rattle.trace_stepper.proofs.compared.agrees.Goals as goal

pub returns-in-None-given : goal.returns-in-None-given
returns-in-None-given c = search rules
