use Rattle.schedule_laws.proofs.Outputs.{applied_in_order}
use Rattle.schedule_laws.proofs.points.applied_outputs_are_in_order.Goals as goal

pub returns : goal.returns
returns c = applied_in_order (record {
  blocks = c.blocks_grow.ensures;
  leaves = c.outputs_hold_what_is_left.ensures.steps;
  reads = c.reads_back.ensures.header;
  sends = c.answers_send_what_is_made.ensures;
  keep = c.ids_are_drawn.ensures.schedule;
  opens = c.ids_are_drawn.ensures.opened;
  accepts = record { of_rows = c.accepted_datagrams_are_newer.ensures.numbers; of_slots = c.accepted_numbers_are_newer.ensures.step; numbered = c.openings_are_numbered.ensures.whole };
  names = c.ids_name_openings.ensures;
  openings = c.one_opening_is_accepted.ensures;
})
