use Rattle.station_rim.proofs.NeverLost.{never_lost, room_reports_all}
use Rattle.station_rim.proofs.queue.state_law.state_is_never_lost.Goals as goal

pub returns : goal.returns
returns c = record { lost = never_lost; room = room_reports_all }
