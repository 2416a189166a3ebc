use Rattle.std.proofs.Common.{rules}
use Rattle.trace_text.proofs.written.mode_name.Goals as goal

pub returns-then-run : goal.returns-then-run
returns-then-run c = search rules

pub returns-else-run : goal.returns-else-run
returns-else-run c = search rules
