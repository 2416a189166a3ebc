use Rattle.std.proofs.Common.{rules}
use Rattle.adapter_table.proofs.rows.supports.Goals as goal

pub returns-then-is_member : goal.returns-then-is_member
returns-then-is_member c = search rules
