use Rattle.schedule_laws.specs.Lemmas.OpeningActs.{schedules_accept}
use Rattle.schedule_laws.proofs.order.one_opening_is_accepted.Goals as goal

pub returns : goal.returns
returns c = schedules_accept c.ids_name_openings.ensures
