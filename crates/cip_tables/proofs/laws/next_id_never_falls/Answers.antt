use Rattle.cip_tables.proofs.RunKeeps.{step_counts, run_counts}
use Rattle.cip_tables.proofs.laws.next_id_never_falls.Goals as goal

pub returns : goal.returns
returns c = record {
  step = step_counts c.counters_never_fall.ensures c.counters_never_fall-2.ensures.step;
  run = run_counts c.counters_never_fall.ensures c.counters_never_fall-2.ensures.step;
}
