use Rattle.device_laws.proofs.Requests.{scanners_send_none}
use Rattle.device_laws.proofs.reply_ids.scanners_send_no_success.Goals as goal

pub returns : goal.returns
returns c = scanners_send_none c.reads_back.ensures.items c.answers_are_small.ensures
