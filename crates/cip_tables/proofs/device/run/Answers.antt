use Rattle.std.proofs.Common.{arith}
use Rattle.std.proofs.lemmas.List.{take_more}
use Rattle.cip_tables.specs.RunLaws.{Runs_more, run_all, run_folds}
use Rattle.cip_tables.proofs.RunKeeps.{run_sound, run_whole}
use Rattle.cip_tables.proofs.device.run.Goals as goal

pub loop-event-preserved : goal.loop-event-preserved
loop-event-preserved g c = record {
  reported =
      rw (c.push_reserved.ensures.items, take_more c.args.events.now c.loop-event.event-index c.event-item.result (omega arith), ← c.event-item.is)
      (Runs_more _ _ _ _ _ _ _ c.loop-event.invariant.reported c.step-outcome.ensures.step);
  count = omega arith;
  space = omega arith;
}

pub returns : goal.returns
returns g c =
    let table = g.D.Device.table in
    let ran = run_all (table c.args.device.now) (table c.loop-event.device) c.args.events.now c.loop-event.outcomes.items c.loop-event.event-index (omega arith) c.loop-event.invariant.reported in
    let folds = run_folds (table c.args.device.now) c.args.events.now c.loop-event.outcomes.items (table c.loop-event.device) ran in
    record {
      run = ran;
      outcomes = folds.reported;
      table = folds.table;
      sound = run_sound c.tables_are_sound.ensures.steps c.steps_keep_tables_whole.ensures _ c.args.events.now c.loop-event.outcomes.items _ ran;
      whole = λ whole. run_whole c.tables_are_whole.ensures.steps c.steps_keep_tables_whole.ensures _ _ c.args.events.now c.loop-event.outcomes.items whole ran;
      err = tt;
    }
