use Rattle.device_laws.specs.Lemmas.SlotIds.{slots_have_ids}
use Rattle.device_laws.proofs.reply_ids.slots_have_the_ids_of_their_success.Goals as goal

pub returns : goal.returns
returns c = slots_have_ids c.reads_back.ensures.items c.answers_are_small.ensures
