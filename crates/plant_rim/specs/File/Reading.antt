-- How a text is read as a plant's file, line by line. LF ends a line, and the last line may end without one.
use Rattle.std.specs.Prelude.{ℕ, ◌+◌, ◌≡◌, List, [], ◌∷◌, Result, Ok, Err}
use Rattle.trace_text.specs.Reading.{parts_of}
use Rattle.plant_rim.specs.declared.file.draft.PlantDraft.{PlantDraft}
use Rattle.plant_rim.specs.declared.file.faults.PlantLineFault.{PlantLineFault}
use Rattle.plant_rim.specs.declared.file.faults.PlantFault.{PlantFault}
use Rattle.plant_rim.specs.declared.file.faults.PlantFault.TheVariants.{BadLine, OutOfMemory}
use Rattle.plant_rim.specs.declared.file.faults.PlantReadFault.{PlantReadFault}
use Rattle.plant_rim.specs.declared.file.faults.PlantReadFault.TheVariants as read
use Rattle.plant_rim.specs.declared.file.line.PlantLine.{PlantLine}
use Rattle.plant_rim.specs.declared.file.plant.PlantFile.{PlantFile}
use Rattle.plant_rim.specs.File.Lines.{line_of}
use Rattle.plant_rim.specs.File.Plants.{draft_with, no_draft, plant_of}

abbrev pub draft_after_line : PlantDraft → Result PlantLine PlantLineFault → Result PlantDraft PlantLineFault
draft_after_line draft (Ok given) = draft_with draft given
draft_after_line draft (Err why) = Err why

-- what the lines say with one more, of these bytes
unfoldable pub draft_after : PlantDraft → List ℕ → Result PlantDraft PlantLineFault
draft_after draft bytes = draft_after_line draft (line_of bytes)

-- a fault of the line of this number
abbrev pub numbered : {A : Type 0} → ℕ → Result A PlantLineFault → Result A PlantFault
numbered number (Ok value) = Ok value
numbered number (Err why) = Err (BadLine number why)

-- what the lines so far say, or the first bad one of them; here with one more, of this number
abbrev pub state_after : ℕ → Result PlantDraft PlantFault → List ℕ → Result PlantDraft PlantFault
state_after number (Ok draft) bytes = numbered number (draft_after draft bytes)
state_after number (Err why) bytes = Err why

-- the plant at the end of the file, whose last line has this number
abbrev pub whole : ℕ → Result PlantDraft PlantFault → Result PlantFile PlantFault
whole number (Ok draft) = numbered number (plant_of draft)
whole number (Err why) = Err why

-- the reading of the lines from this number on, after those before
abbrev pub reading_from : ℕ → Result PlantDraft PlantFault → List (List ℕ) → Result PlantFile PlantFault
reading_from number state [] = whole number state
reading_from number state (last ∷ []) = whole number (state_after number state last)
reading_from number state (bytes ∷ next ∷ lines) = reading_from (number + 1) (state_after number state bytes) (next ∷ lines)

-- the reading of a text: its plant, or the first bad line and what is wrong with it
unfoldable pub plant_reading : List ℕ → Result PlantFile PlantFault
plant_reading text = reading_from 1 (Ok no_draft) (parts_of text)

-- A function answers the reading of the text, or that an allocation was refused.
abbrev pub Answers : {A : Type 0} → Result A PlantFault → Result A PlantFault → Type 0
Answers said (Ok value) = said ≡ Ok value
Answers said (Err (BadLine number why)) = said ≡ Err (BadLine number why)
Answers said (Err OutOfMemory) = Unit {0}

-- A function left what the lines so far say. If an allocation was refused, nothing is promised.
abbrev pub Adds : Result PlantDraft PlantLineFault → Result Unit PlantReadFault → PlantDraft → Type 0
Adds said (Ok done) draft = said ≡ Ok draft
Adds said (Err (read.Line why)) draft = said ≡ Err why
Adds said (Err read.OutOfMemory) draft = Unit {0}

-- The same with the number of the line.
abbrev pub AddsNumbered : Result PlantDraft PlantFault → Result Unit PlantFault → PlantDraft → Type 0
AddsNumbered said (Ok done) draft = said ≡ Ok draft
AddsNumbered said (Err (BadLine number why)) draft = said ≡ Err (BadLine number why)
AddsNumbered said (Err OutOfMemory) draft = Unit {0}
