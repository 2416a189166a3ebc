use Rattle.adapter_table.proofs.OnceLemmas.{messages_once}
use Rattle.adapter_table.proofs.laws.messages_are_executed_once.Goals as goal

pub returns : goal.returns
returns c = messages_once
