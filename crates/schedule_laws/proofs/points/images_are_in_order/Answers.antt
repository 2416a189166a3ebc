use Rattle.schedule_laws.proofs.ProducedImages.{gathered_in_order}
use Rattle.schedule_laws.proofs.points.images_are_in_order.Goals as goal

pub returns : goal.returns
returns c = gathered_in_order (record {
  sends = c.answers_send_what_is_made.ensures;
  keep = c.ids_are_drawn.ensures.schedule;
  opens = c.ids_are_drawn.ensures.opened;
  ids = c.slots_have_the_ids_of_their_success.ensures;
  rise = c.accepted_indexes_rise.ensures;
  names = c.ids_name_openings.ensures;
  once = c.an_id_opens_one_connection.ensures;
})
