use Rattle.device_laws.proofs.OwnIds.{streams_come}
use Rattle.device_laws.proofs.reply_ids.a_scanners_streams_come_with_events.Goals as goal

pub returns : goal.returns
returns c = streams_come c.reads_back.ensures.items
