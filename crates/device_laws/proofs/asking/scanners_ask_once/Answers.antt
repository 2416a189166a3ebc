use Rattle.device_laws.specs.Lemmas.RequestedIds.{scanners_ask}
use Rattle.device_laws.proofs.asking.scanners_ask_once.Goals as goal

pub returns : goal.returns
returns c = scanners_ask c.reads_back.ensures.items c.answers_are_small.ensures
