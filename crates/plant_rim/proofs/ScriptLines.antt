-- The lines of a script's file, one after the other.
use Rattle.std.proofs.Common.{Ok, Err, Result, ◌≡◌, ℕ, ◌+◌, List, [], ◌∷◌, refl, ap, ◌∙◌}
use Rattle.station.specs.declared.script.lines.ScriptLine.{ScriptLine}
use Rattle.trace_text.specs.Reading.{parts_of}
use Rattle.plant_rim.specs.declared.file.faults.PlantFault.{PlantFault}
use Rattle.plant_rim.specs.declared.file.faults.PlantFault.TheVariants.{BadLine, OutOfMemory}
use Rattle.plant_rim.specs.File.Reading.{Answers, numbered}
use Rattle.plant_rim.specs.File.Scripts.{AddsLine, script_after, script_from}

abbrev Script : Type 0
Script = List ScriptLine

-- what is bad stays so
stays_bad : (number : ℕ) (why : PlantFault) (lines : List (List ℕ)) → script_from number (Err why) lines ≡ Err why
stays_bad number why [] = refl
stays_bad number why (line ∷ lines) = stays_bad (number + 1) why lines

-- a line with what is left behind it
line_read : (said : Result Script PlantFault) (number : ℕ) (script : Script) (state : Result Script PlantFault) (text line : List ℕ) (lines : List (List ℕ)) → said ≡ script_from number (Ok script) (parts_of text) → parts_of text ≡ line ∷ lines → numbered number (script_after script line) ≡ state → said ≡ script_from (number + 1) state lines
line_read said number script state text line lines so_far parted is = so_far ∙ ap (script_from number (Ok script)) parted ∙ ap (λ s. script_from (number + 1) s lines) is

-- a line that is good
pub good_script_line : (said : Result Script PlantFault) (number : ℕ) (script after : Script) (text rest line : List ℕ) → said ≡ script_from number (Ok script) (parts_of text) → parts_of text ≡ line ∷ parts_of rest → numbered number (script_after script line) ≡ Ok after → said ≡ script_from (number + 1) (Ok after) (parts_of rest)
good_script_line said number script after text rest line so_far parted good = line_read said number script (Ok after) text line (parts_of rest) so_far parted good

-- a line at which the reading stops
pub script_stops : (said : Result Script PlantFault) (number : ℕ) (script after : Script) (why : PlantFault) (text line : List ℕ) (lines : List (List ℕ)) → said ≡ script_from number (Ok script) (parts_of text) → parts_of text ≡ line ∷ lines → AddsLine (numbered number (script_after script line)) (Err why) after → Answers said (Err why)
script_stops said number script after (BadLine bad fault) text line lines so_far parted adds = line_read said number script (Err (BadLine bad fault)) text line lines so_far parted adds ∙ stays_bad (number + 1) (BadLine bad fault) lines
script_stops said number script after OutOfMemory text line lines so_far parted adds = tt
