use Rattle.trace_text.proofs.TraceTexts.{is_reading, only_reading}
use Rattle.trace_text.proofs.trace.has_one_reading.Goals as goal

pub returns-clause-reading : goal.returns-clause-reading
returns-clause-reading c = is_reading

pub returns-clause-only : goal.returns-clause-only
returns-clause-only c = only_reading
