use Rattle.std.proofs.Common.{◌≡◌, ◌+◌, ◌≤◌, length, Ok}
use Rattle.trace_text.specs.Reading.{parts_of}
use Rattle.plant_rim.specs.File.Scripts.{script_from, script_reading}
use Rattle.plant_rim.proofs.file.reading.read_script_file.Given as goal

-- the lines that are left say what the whole text says, after those before
abbrev pub invariant-loop-line : goal.invariant-loop-line
invariant-loop-line l = (script_reading l.fn.text ≡ script_from l.number (Ok l.script.items) (parts_of l.rest)) × (l.number + length l.rest ≤ length l.fn.text + 1)

abbrev pub decreases-loop-line : goal.decreases-loop-line
decreases-loop-line l = length l.rest
