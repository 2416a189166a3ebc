use Rattle.std.proofs.Common.{rules}
use Rattle.cip_events.proofs.event.Event.copy.Goals as goal

pub returns : goal.returns
returns c = search rules
