use Rattle.device_lock.proofs.Places.{events_stand}
use Rattle.device_lock.proofs.laws.events_stand_at_their_places.Goals as goal

pub returns : goal.returns
returns c = events_stand
