use Rattle.std.proofs.Common.{◌↔◌, drop}
use Rattle.record_settling.specs.Senders.{WasSent}
use Rattle.record_settling.proofs.senders.was_sent.Given as goal

abbrev pub invariant-loop-entry : goal.invariant-loop-entry
invariant-loop-entry l = WasSent l.bytes l.bare (drop l.entry-index l.entries) ↔ WasSent l.bytes l.bare l.entries
