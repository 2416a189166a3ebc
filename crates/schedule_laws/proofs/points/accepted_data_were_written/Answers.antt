use Rattle.schedule_laws.proofs.Makings.{accepted_written, gathered_input}
use Rattle.schedule_laws.proofs.points.accepted_data_were_written.Goals as goal

pub returns : goal.returns
returns c = record {
  outputs = accepted_written (record {
    blocks = c.blocks_grow.ensures;
    names = c.ids_name_openings.ensures;
    outputs = c.slots_produce_their_outputs.ensures;
    written = c.outputs_are_as_written.ensures;
  });
  inputs = gathered_input c.blocks_grow.ensures c.ids_name_openings.ensures;
}
