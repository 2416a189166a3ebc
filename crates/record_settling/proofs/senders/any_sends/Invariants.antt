use Rattle.std.proofs.Common.{◌↔◌, drop}
use Rattle.record_settling.specs.Senders.{AnySends}
use Rattle.record_settling.proofs.senders.any_sends.Given as goal

abbrev pub invariant-loop-sent : goal.invariant-loop-sent
invariant-loop-sent l = AnySends l.bytes l.bare (drop l.sent-index l.datagrams) ↔ AnySends l.bytes l.bare l.datagrams
