-- How a text is read as a script alone, line by line. LF ends a line, and the last line may end without one.
use Rattle.std.specs.Prelude.{ℕ, ◌+◌, ◌≡◌, nat_lt, if◌then◌else◌, List, [], ◌∷◌, ◌++◌, length, Result, Ok, Err}
use Rattle.trace_text.specs.Reading.{parts_of}
use Rattle.plant_rim.specs.declared.file.faults.PlantLineFault.{PlantLineFault}
use Rattle.plant_rim.specs.declared.file.faults.PlantLineFault.TheVariants as fault
use Rattle.plant_rim.specs.declared.file.faults.PlantFault.{PlantFault}
use Rattle.plant_rim.specs.declared.file.faults.PlantFault.TheVariants.{BadLine, OutOfMemory}
use Rattle.plant_rim.specs.declared.file.faults.PlantReadFault.{PlantReadFault}
use Rattle.plant_rim.specs.declared.file.faults.PlantReadFault.TheVariants as read
use Rattle.plant_rim.specs.declared.file.line.PlantLine.{PlantLine}
use Rattle.plant_rim.specs.declared.file.line.PlantLine.TheVariants as line
use Rattle.plant_rim.specs.File.Lines.{line_of}
use Rattle.plant_rim.specs.File.Reading.{numbered}
use Rattle.station.specs.declared.script.lines.ScriptLine.{ScriptLine}

abbrev pub longer : List ScriptLine → ScriptLine → Result (List ScriptLine) PlantLineFault
longer script said = if nat_lt (length script) 256 then Ok (script ++ said ∷ []) else Err fault.LongScript

abbrev pub script_with_line : List ScriptLine → Result PlantLine PlantLineFault → Result (List ScriptLine) PlantLineFault
script_with_line script (Ok line.Skipped) = Ok script
script_with_line script (Ok (line.Script said)) = longer script said
script_with_line script (Ok other) = Err fault.NoScriptLine
script_with_line script (Err fault.UnknownWord) = Err fault.NoScriptLine
script_with_line script (Err why) = Err why

-- a script with one line more, of these bytes
unfoldable pub script_after : List ScriptLine → List ℕ → Result (List ScriptLine) PlantLineFault
script_after script bytes = script_with_line script (line_of bytes)

abbrev pub script_behind : ℕ → Result (List ScriptLine) PlantFault → List ℕ → Result (List ScriptLine) PlantFault
script_behind number (Ok script) bytes = numbered number (script_after script bytes)
script_behind number (Err why) bytes = Err why

abbrev pub script_from : ℕ → Result (List ScriptLine) PlantFault → List (List ℕ) → Result (List ScriptLine) PlantFault
script_from number script [] = script
script_from number script (bytes ∷ lines) = script_from (number + 1) (script_behind number script bytes) lines

-- the script of a text, or the first bad line and what is wrong with it
unfoldable pub script_reading : List ℕ → Result (List ScriptLine) PlantFault
script_reading text = script_from 1 (Ok []) (parts_of text)

-- A function left the script with one line more. If an allocation was refused, nothing is promised.
abbrev pub AddsSaid : Result (List ScriptLine) PlantLineFault → Result Unit PlantReadFault → List ScriptLine → Type 0
AddsSaid said (Ok done) script = said ≡ Ok script
AddsSaid said (Err (read.Line why)) script = said ≡ Err why
AddsSaid said (Err read.OutOfMemory) script = Unit {0}

-- The same with the number of the line.
abbrev pub AddsLine : Result (List ScriptLine) PlantFault → Result Unit PlantFault → List ScriptLine → Type 0
AddsLine said (Ok done) script = said ≡ Ok script
AddsLine said (Err (BadLine number why)) script = said ≡ Err (BadLine number why)
AddsLine said (Err OutOfMemory) script = Unit {0}
