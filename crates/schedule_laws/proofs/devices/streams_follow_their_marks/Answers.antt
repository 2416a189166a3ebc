use Rattle.schedule_laws.proofs.MarkedStreams.{streams_follow_marks}
use Rattle.schedule_laws.proofs.devices.streams_follow_their_marks.Goals as goal

pub returns : goal.returns
returns c = streams_follow_marks (record {
  steps = record {
    carry = c.ids_are_carried.ensures;
    class3 = c.class3_ids_are_carried.ensures;
    plain = c.plain_devices_stay_plain.ensures;
    whole = c.tables_are_whole.ensures.run;
    counts = c.next_id_never_falls.ensures.step;
    adapters = c.profiles_stay.ensures;
    blocks = c.blocks_grow.ensures;
    scanners = c.counters_never_fall.ensures.step;
  };
  sending = c.devices_send_over_their_streams.ensures;
  rows = c.connections_keep_their_ids.ensures;
  streams = c.a_scanners_streams_come_with_events.ensures;
}) c.ids_are_drawn.ensures.schedule c.ids_are_drawn.ensures.opened
