use Rattle.std.proofs.Common.{rules, refl}
use Rattle.trace_text.proofs.EntryTexts.{entry_more}
use Rattle.trace_text.proofs.written.push_entries.Goals as goal

pub loop-index-preserved : goal.loop-index-preserved
loop-index-preserved c = entry_more _ _ _ _ _ _ _ _ (search rules) c.index-entries-index.is refl c.loop-index.invariant c.in_ok-push_event.ensures c.in_ok-push_recorded.ensures
