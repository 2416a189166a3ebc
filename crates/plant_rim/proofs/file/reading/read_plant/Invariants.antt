use Rattle.std.proofs.Common.{◌≡◌, ◌+◌, ◌≤◌, length, Ok}
use Rattle.trace_text.specs.Reading.{parts_of}
use Rattle.plant_rim.specs.File.Reading.{plant_reading, reading_from}
use Rattle.plant_rim.proofs.file.reading.read_plant.Given as goal

-- the lines that are left say what the whole text says, after those before
abbrev pub invariant-loop-line : goal.invariant-loop-line
invariant-loop-line l = (plant_reading l.fn.text ≡ reading_from l.number (Ok l.draft) (parts_of l.rest)) × (l.number + length l.rest ≤ length l.fn.text + 1)

abbrev pub decreases-loop-line : goal.decreases-loop-line
decreases-loop-line l = length l.rest
