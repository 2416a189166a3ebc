use Rattle.std.proofs.Common.{◌≡◌, ◌+◌, ◌≤◌, ◌++◌, length}
use Rattle.trace_text.specs.Reading.{parts_of}
use Rattle.plant_command.specs.DeviceLines.{device_lines, numbers_from}
use Rattle.plant_command.proofs.opening.device_lines.Given as goal

-- the numbers so far and those of the lines that are left are those of the text
abbrev pub invariant-loop-line : goal.invariant-loop-line
invariant-loop-line l = (l.numbers.items ++ numbers_from l.number (parts_of l.rest) ≡ device_lines l.text) × (l.number + length l.rest ≤ length l.text + 1)

abbrev pub decreases-loop-line : goal.decreases-loop-line
decreases-loop-line l = length l.rest
