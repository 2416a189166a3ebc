use Rattle.adapter_table.specs.Lemmas.FedLemmas.{applied_fits, applied_output}
use Rattle.adapter_table.proofs.laws.applied_data_fit.Goals as goal

pub returns : goal.returns
returns c = record { outputs = applied_output; lengths = applied_fits }
