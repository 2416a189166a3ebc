use Rattle.std.proofs.Common.{◌≡◌, ◌++◌, string_bytes, flat_map, take}
use Rattle.trace_outcomes.specs.WrittenOutcomes.{outgoing_line}
use Rattle.trace_outcomes.proofs.written_outcomes.push_outgoing_datagrams.Given as goal

abbrev pub invariant-loop-outgoing : goal.invariant-loop-outgoing
invariant-loop-outgoing l = string_bytes l.out ≡ string_bytes l.fn.out ++ flat_map (outgoing_line l.number) (take l.outgoing-index l.outgoing_datagrams)
