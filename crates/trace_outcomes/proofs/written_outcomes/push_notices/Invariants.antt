use Rattle.std.proofs.Common.{◌≡◌, ◌++◌, string_bytes, flat_map, take}
use Rattle.trace_outcomes.specs.WrittenOutcomes.{notice_line}
use Rattle.trace_outcomes.proofs.written_outcomes.push_notices.Given as goal

abbrev pub invariant-loop-notice : goal.invariant-loop-notice
invariant-loop-notice l = string_bytes l.out ≡ string_bytes l.fn.out ++ flat_map (notice_line l.number) (take l.notice-index l.notices)
