use Rattle.station_rim.proofs.InOrder.{in_order}
use Rattle.station_rim.proofs.record_law.entries_are_written_in_order.Goals as goal

pub returns : goal.returns
returns c = in_order
