use Rattle.std.proofs.Common.{rules}
use Rattle.cip_events.proofs.Equal.{answer_decides}
use Rattle.cip_events.proofs.event.Answer.same.Goals as goal

pub returns : goal.returns
returns c = let d = answer_decides c.args.self.now c.args.other.now in search rules
