use Rattle.std.proofs.Common.{rules}
use Rattle.adapter_table.proofs.expiry.has_expired.Goals as goal

pub returns-then-is_established : goal.returns-then-is_established
returns-then-is_established c = search rules
