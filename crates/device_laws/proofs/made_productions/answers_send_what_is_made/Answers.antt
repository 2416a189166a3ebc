use Rattle.device_laws.proofs.SentTexts.{answers_send}
use Rattle.device_laws.proofs.made_productions.answers_send_what_is_made.Goals as goal

pub returns : goal.returns
returns c = answers_send
