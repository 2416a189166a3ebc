use Rattle.messaging.specs.Lemmas.KeptLemmas.{answered_once}
use Rattle.messaging.proofs.laws.answered_requests_wait_no_more.Goals as goal

pub returns : goal.returns
returns c = answered_once
