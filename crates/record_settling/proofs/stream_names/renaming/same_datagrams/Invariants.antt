use Rattle.std.proofs.Common.{◌≡◌, take}
use Rattle.record_settling.proofs.stream_names.renaming.same_datagrams.Given as goal

abbrev pub invariant-loop-outgoing : goal.invariant-loop-outgoing
invariant-loop-outgoing l = l.out.items ≡ take l.outgoing-index l.datagrams
