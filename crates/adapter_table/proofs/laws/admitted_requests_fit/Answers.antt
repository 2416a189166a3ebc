use Rattle.adapter_table.proofs.WholeLemmas.{is_timed, stored_fits}
use Rattle.adapter_table.proofs.laws.admitted_requests_fit.Goals as goal

pub returns : goal.returns
returns c = record { times = is_timed; segments = stored_fits }
