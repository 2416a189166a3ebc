use Rattle.std.proofs.Common.{rules}
use Rattle.conn_state.proofs.states.Opening.accept.Goals as goal

pub returns-in-None : goal.returns-in-None
returns-in-None c = search rules
