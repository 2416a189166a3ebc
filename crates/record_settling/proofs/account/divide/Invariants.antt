use Rattle.std.proofs.Common.{◌≡◌, ◌++◌, map, length}
use Rattle.std.specs.Vec.Iter.{into_iter_items}
use Rattle.record_settling.specs.Accounts.{event_in, receipts_from}
use Rattle.record_settling.proofs.account.divide.Given as goal

-- the events and the receipts so far, and those of what is left
abbrev pub invariant-loop-step : goal.invariant-loop-step
invariant-loop-step l = record {
  events : l.events.items ++ map event_in (into_iter_items l.step-iterator) ≡ map event_in l.fn.steps.items;
  receipts : l.receipts.items ++ receipts_from l.byte (length l.events.items) (into_iter_items l.step-iterator) ≡ l.fn.receipts.items ++ receipts_from l.byte 0 l.fn.steps.items;
}
