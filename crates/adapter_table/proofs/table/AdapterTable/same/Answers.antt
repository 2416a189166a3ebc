use Rattle.std.proofs.Common.{rules}
use Rattle.adapter_table.proofs.EqLemmas.{adapter_decides}
use Rattle.adapter_table.proofs.table.AdapterTable.same.Goals as goal

pub returns : goal.returns
returns c = let d = adapter_decides c.args.self.now c.args.other.now in search rules
