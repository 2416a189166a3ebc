use Rattle.schedule_laws.specs.Lemmas.OpeningActs.{one_opening_has_it}
use Rattle.schedule_laws.proofs.order.an_id_names_one_opening.Goals as goal

pub returns : goal.returns
returns c = one_opening_has_it c.ids_are_drawn.ensures.schedule c.ids_are_drawn.ensures.opened c.answers_send_what_is_made.ensures c.ids_name_openings.ensures
