use Rattle.device_laws.proofs.RequestedRows.{new_rows_requested}
use Rattle.device_laws.proofs.asking.new_connections_are_requested.Goals as goal

pub returns : goal.returns
returns c = new_rows_requested
