use Rattle.device_laws.proofs.OwnIds.{scanners_ask}
use Rattle.device_laws.proofs.reply_ids.scanners_ask_for_their_own_ids.Goals as goal

pub returns : goal.returns
returns c = scanners_ask c.reads_back.ensures.items c.answers_are_small.ensures
