use Rattle.std.proofs.Common.{◌≡◌, ◌+◌, ◌≤◌, length}
use Rattle.trace_text.specs.Reading.{parts_of}
use Rattle.trace_faults.specs.ProfileLines.{line_number, number_among}
use Rattle.trace_faults.proofs.profile_draft.line_number.Given as goal

-- the lines that are left have the line that the whole text has
abbrev pub invariant-loop-line : goal.invariant-loop-line
invariant-loop-line l = (line_number l.fn.text l.fn.name l.fn.index ≡ number_among l.number l.fn.name l.before (parts_of l.rest)) × (l.number + length l.rest ≤ length l.fn.text + 1)

abbrev pub decreases-loop-line : goal.decreases-loop-line
decreases-loop-line l = length l.rest
