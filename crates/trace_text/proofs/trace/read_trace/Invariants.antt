use Rattle.std.proofs.Common.{◌≡◌, ◌+◌, ◌≤◌, length, Ok}
use Rattle.trace_text.specs.Reading.{parts_of, parsed_from, trace_reading}
use Rattle.trace_text.proofs.trace.read_trace.Given as goal

-- the lines that are left tell what the whole text tells, after what was read
abbrev pub invariant-loop-line : goal.invariant-loop-line
invariant-loop-line l = (trace_reading l.fn.text ≡ parsed_from l.number (Ok l.builder) (parts_of l.rest)) × (l.number + length l.rest ≤ length l.fn.text + 1)

abbrev pub decreases-loop-line : goal.decreases-loop-line
decreases-loop-line l = length l.rest
