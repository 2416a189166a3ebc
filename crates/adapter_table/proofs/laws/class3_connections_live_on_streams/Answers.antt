use Rattle.adapter_table.proofs.OnceLemmas.{streams_carry, names_differ}
use Rattle.adapter_table.proofs.laws.class3_connections_live_on_streams.Goals as goal

pub returns : goal.returns
returns c = record { streams = streams_carry; names = names_differ }
