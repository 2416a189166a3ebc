use Rattle.std.proofs.Common.{rules}
use Rattle.cip_events.proofs.small_bytes.SmallBytes.joined.Goals as goal

pub returns : goal.returns
returns c = search rules
