use Rattle.std.proofs.Common.{rules}
use Rattle.adapter_table.proofs.productions.producing.is_due.Goals as goal

pub returns-in-Established : goal.returns-in-Established
returns-in-Established c = search rules
