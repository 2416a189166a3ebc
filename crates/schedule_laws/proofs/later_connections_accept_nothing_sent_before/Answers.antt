use Rattle.schedule_laws.proofs.Later.{ids_to_come_are_unsent, later_connections, later_groups}
use Rattle.schedule_laws.proofs.LaterSlots.{later_slots}
use Rattle.schedule_laws.proofs.later_connections_accept_nothing_sent_before.Goals as goal

pub returns-clause-unsent : goal.returns-clause-unsent
returns-clause-unsent c = ids_to_come_are_unsent

pub returns-clause-connections : goal.returns-clause-connections
returns-clause-connections c = later_connections (record {
  carry = c.ids_are_carried.ensures;
  class3 = c.class3_ids_are_carried.ensures;
  plain = c.plain_devices_stay_plain.ensures;
  whole = c.tables_are_whole.ensures.run;
  counts = c.next_id_never_falls.ensures.step;
  adapters = c.profiles_stay.ensures;
  blocks = c.blocks_grow.ensures;
  scanners = c.counters_never_fall.ensures.step;
})

pub returns-clause-slots : goal.returns-clause-slots
returns-clause-slots c = later_slots (record {
  carry = c.ids_are_carried.ensures;
  class3 = c.class3_ids_are_carried.ensures;
  plain = c.plain_devices_stay_plain.ensures;
  whole = c.tables_are_whole.ensures.run;
  counts = c.next_id_never_falls.ensures.step;
  adapters = c.profiles_stay.ensures;
  blocks = c.blocks_grow.ensures;
  scanners = c.counters_never_fall.ensures.step;
}) c.ids_are_drawn_with_openings.ensures

pub returns-clause-groups : goal.returns-clause-groups
returns-clause-groups c = later_groups (record {
  carry = c.ids_are_carried.ensures;
  class3 = c.class3_ids_are_carried.ensures;
  plain = c.plain_devices_stay_plain.ensures;
  whole = c.tables_are_whole.ensures.run;
  counts = c.next_id_never_falls.ensures.step;
  adapters = c.profiles_stay.ensures;
  blocks = c.blocks_grow.ensures;
  scanners = c.counters_never_fall.ensures.step;
})
