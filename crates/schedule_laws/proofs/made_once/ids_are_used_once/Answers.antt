use Rattle.schedule_laws.proofs.UsedOnce.{ids_used_once}
use Rattle.schedule_laws.proofs.made_once.ids_are_used_once.Goals as goal

pub returns : goal.returns
returns c = ids_used_once (record {
  steps = record {
    carry = c.ids_are_carried.ensures;
    class3 = c.class3_ids_are_carried.ensures;
    plain = c.plain_devices_stay_plain.ensures;
    whole = c.tables_are_whole.ensures.run;
    counts = c.next_id_never_falls.ensures.step;
    adapters = c.profiles_stay.ensures;
    blocks = c.blocks_grow.ensures;
    scanners = c.counters_never_fall.ensures.step;
  };
  asks = c.scanners_ask_once.ensures;
  replies = c.replies_carry_opened_ids.ensures;
  requested = c.new_connections_are_requested.ensures;
}) c.ids_are_drawn.ensures.schedule c.ids_are_drawn.ensures.opened
