use Rattle.std.proofs.Common.{rules}
use Rattle.cip_tables.proofs.copy.TableCopy.same.Goals as goal

pub returns-in-Adapter-Scanner : goal.returns-in-Adapter-Scanner
returns-in-Adapter-Scanner c = search rules
