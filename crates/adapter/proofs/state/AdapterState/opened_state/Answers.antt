use Rattle.std.proofs.Common.{refl}
use Rattle.adapter.proofs.state.AdapterState.opened_state.Goals as goal

pub returns-in-Some : goal.returns-in-Some
returns-in-Some g c = rw c.in-Some.is refl
