use Rattle.schedule_laws.proofs.OneConnection.{one_connection}
use Rattle.schedule_laws.proofs.made_once.an_id_opens_one_connection.Goals as goal

pub returns : goal.returns
returns c = one_connection c.ids_are_used_once.ensures
