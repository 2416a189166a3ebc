use Rattle.std.proofs.Common.{◌≡◌, ◌++◌, drop}
use Rattle.record_settling.specs.Settled.{histories_in, receipts_of_all}
use Rattle.record_settling.proofs.settled.histories_of.Given as goal

-- the histories and the receipts so far, and those of what is left
abbrev pub invariant-loop-trace : goal.invariant-loop-trace
invariant-loop-trace g l = record {
  histories : l.histories.items ++ histories_in (drop l.trace-index l.records) l.rest ≡ histories_in l.records l.fn.names;
  receipts : l.receipts.items ++ receipts_of_all (drop l.trace-index l.records) l.rest ≡ l.fn.receipts.items ++ receipts_of_all l.records l.fn.names;
}
