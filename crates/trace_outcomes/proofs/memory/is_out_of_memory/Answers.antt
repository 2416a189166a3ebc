use Rattle.std.proofs.Common.{rules}
use Rattle.trace_outcomes.proofs.memory.is_out_of_memory.Goals as goal

pub returns-in-Err-OutOfMemory : goal.returns-in-Err-OutOfMemory
returns-in-Err-OutOfMemory c = search rules
