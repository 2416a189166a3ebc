use Rattle.schedule_laws.specs.Lemmas.Beginning.{well_produced}
use Rattle.schedule_laws.proofs.order.productions_are_numbered.Goals as goal

pub returns : goal.returns
returns c = well_produced c.answers_send_what_is_made.ensures c.ids_are_drawn.ensures.schedule c.ids_are_drawn.ensures.opened
