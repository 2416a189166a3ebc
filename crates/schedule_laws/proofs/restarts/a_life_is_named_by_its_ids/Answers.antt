use Rattle.schedule_laws.proofs.LifeIds.{lives_are_named}
use Rattle.schedule_laws.proofs.restarts.a_life_is_named_by_its_ids.Goals as goal

pub returns : goal.returns
returns c = lives_are_named c.answers_send_what_is_made.ensures c.ids_are_drawn.ensures.schedule c.ids_are_drawn.ensures.opened c.an_id_opens_one_connection.ensures (record {
  steps = record {
    carry = c.ids_are_carried.ensures;
    class3 = c.class3_ids_are_carried.ensures;
    plain = c.plain_devices_stay_plain.ensures;
    whole = c.tables_are_whole.ensures.run;
    counts = c.next_id_never_falls.ensures.step;
    adapters = c.profiles_stay.ensures;
    blocks = c.blocks_grow.ensures;
    scanners = c.counters_never_fall.ensures.step;
  };
  replies = c.replies_carry_opened_ids.ensures;
  rows = c.connections_keep_their_ids.ensures;
  slots = c.slots_have_the_ids_of_their_success.ensures;
  requests = c.scanners_send_no_success.ensures;
  asks = c.scanners_ask_for_their_own_ids.ensures;
  streams = c.a_scanners_streams_come_with_events.ensures;
}) c.ids_are_used_once.ensures
