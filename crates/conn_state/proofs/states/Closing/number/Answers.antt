use Rattle.std.proofs.Common.{refl}
use Rattle.conn_state.proofs.states.Closing.number.Goals as goal

pub returns : goal.returns
returns c = refl
