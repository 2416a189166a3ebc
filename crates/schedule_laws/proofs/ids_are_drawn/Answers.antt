use Rattle.schedule_laws.specs.Lemmas.Drawing.{schedules_keep}
use Rattle.schedule_laws.proofs.OpeningIds.{opening_worlds}
use Rattle.schedule_laws.proofs.ids_are_drawn.Goals as goal

pub returns-clause-schedule : goal.returns-clause-schedule
returns-clause-schedule c = schedules_keep (record {
  carry = c.ids_are_carried.ensures;
  class3 = c.class3_ids_are_carried.ensures;
  plain = c.plain_devices_stay_plain.ensures;
  whole = c.tables_are_whole.ensures.run;
  counts = c.next_id_never_falls.ensures.step;
  adapters = c.profiles_stay.ensures;
  blocks = c.blocks_grow.ensures;
  scanners = c.counters_never_fall.ensures.step;
})

pub returns-clause-opened : goal.returns-clause-opened
returns-clause-opened c = opening_worlds c.tables_are_whole.ensures.opening
