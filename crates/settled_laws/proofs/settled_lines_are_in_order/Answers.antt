use Rattle.settled_laws.proofs.Chronicles.{lines_in_order}
use Rattle.settled_laws.proofs.settled_lines_are_in_order.Goals as goal

pub returns : goal.returns
returns c = lines_in_order (record {
  produced = c.productions_are_numbered.ensures;
  written = c.outputs_are_as_written.ensures;
  named = c.ids_name_openings.ensures;
  devices = c.devices_stand.ensures;
  marks = c.streams_follow_their_marks.ensures;
  used_once = c.ids_are_used_once.ensures;
  one_connection = c.an_id_opens_one_connection.ensures;
  one_opening = c.an_id_names_one_opening.ensures;
  one_producer = c.an_id_names_one_producer.ensures.one_producer;
  gathered = c.images_hold_accepted_data.ensures;
  outputs = c.applied_outputs_are_in_order.ensures;
  images = c.images_are_in_order.ensures;
})
