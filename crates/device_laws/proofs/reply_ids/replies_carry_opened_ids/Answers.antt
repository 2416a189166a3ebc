use Rattle.device_laws.proofs.Answering.{replies_carry}
use Rattle.device_laws.proofs.reply_ids.replies_carry_opened_ids.Goals as goal

pub returns : goal.returns
returns c = replies_carry c.reads_back.ensures.items c.answers_are_small.ensures
