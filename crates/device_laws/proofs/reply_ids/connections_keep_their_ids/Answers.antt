use Rattle.device_laws.specs.Lemmas.RowIds.{connections_keep}
use Rattle.device_laws.proofs.reply_ids.connections_keep_their_ids.Goals as goal

pub returns : goal.returns
returns c = connections_keep
