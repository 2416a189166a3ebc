use Rattle.schedule_laws.proofs.Acting.{schedules_name_one}
use Rattle.schedule_laws.proofs.Drawing.{one_slot}
use Rattle.schedule_laws.proofs.slot_openings.an_opening_number_names_one_slot.Goals as goal

pub returns : goal.returns
returns c = record {
  events = one_slot c.openings_are_numbered.ensures.law c.openings_differ.ensures;
  schedules = schedules_name_one c.projections_are_runs.ensures c.openings_are_numbered.ensures.law c.openings_differ.ensures;
}
