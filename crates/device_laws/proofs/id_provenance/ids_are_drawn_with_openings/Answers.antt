use Rattle.device_laws.proofs.Carrying.{steps_keep_from}
use Rattle.device_laws.proofs.id_provenance.ids_are_drawn_with_openings.Goals as goal

pub returns : goal.returns
returns c = steps_keep_from c.reads_back.ensures.items c.answers_are_small.ensures c.counters_never_fall.ensures.step
