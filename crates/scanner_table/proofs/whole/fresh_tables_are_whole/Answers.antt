use Rattle.std.specs.Prelude.{[]}
use Rattle.scanner_table.proofs.whole.fresh_tables_are_whole.Goals as goal

pub returns : goal.returns
returns c = λ profile faultless. record {
  table = c.fresh_tables_are_well_formed.ensures profile faultless;
  numbers = c.numbers_are_below_the_next.ensures.fresh profile faultless;
  producers = c.slots_produce_as_themselves.ensures.fresh profile [];
  waits = c.answers_are_waited_for_in_time.ensures.fresh profile [];
  turns = c.openings_take_turns.ensures.fresh profile [];
  explicit = c.explicit_requests_are_pending.ensures.fresh profile [];
}
