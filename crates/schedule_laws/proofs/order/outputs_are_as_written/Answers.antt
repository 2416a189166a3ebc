use Rattle.schedule_laws.proofs.OutputsWritten.{as_written}
use Rattle.schedule_laws.proofs.order.outputs_are_as_written.Goals as goal

pub returns : goal.returns
returns c = as_written c.projections_are_runs.ensures c.bytes_are_from_scratch.ensures.fresh
