use Rattle.eip_line.proofs.Runs.{begun_taken}
use Rattle.eip_line.proofs.usage.misused.Goals as goal

pub returns-clause-usage : goal.returns-clause-usage
returns-clause-usage g c = begun_taken _ _ _ _ c.write_text.ensures
