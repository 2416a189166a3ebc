use Rattle.std.proofs.Common.{refl}
use Rattle.conn_state.proofs.states.Idle.admit.Goals as goal

pub returns : goal.returns
returns c = refl
