-- The lines of a plant's file, each as its value or what is wrong with it.
use Rattle.std.specs.Prelude.{ℕ, ◌==◌, if◌then◌else◌, List, [], ◌∷◌, codes, ok_or, option_map, option_and_then, Option, Some, None, Result, Ok, Err, ◌≡◌}
use Rattle.std.specs.Borrow.{Bor}
use Rattle.std.specs.Str.{is_utf8}
use Rattle.cip_types.specs.declared.names.Node.{Node}
use Rattle.station.specs.declared.script.lines.DueTime.{DueTime}
use Rattle.station.specs.declared.script.lines.DueTime.TheVariants.{At, Every}
use Rattle.script_checks.specs.declared.condition.Condition.{Condition}
use Rattle.station.specs.declared.script.lines.ScriptAct.{ScriptAct}
use Rattle.trace_words.specs.Reader.{Reader, Meanings, meaning, next_word, ends, ◌>>=◌}
use Rattle.trace_words.specs.Words.{node_of, number_of, words_of}
use Rattle.plant_rim.specs.declared.file.faults.PlantLineFault.{PlantLineFault}
use Rattle.plant_rim.specs.declared.file.faults.PlantLineFault.TheVariants as fault
use Rattle.plant_rim.specs.declared.file.faults.PlantReadFault.{PlantReadFault}
use Rattle.plant_rim.specs.declared.file.faults.PlantReadFault.TheVariants.{Line, OutOfMemory}
use Rattle.plant_rim.specs.declared.file.line.FaultSetting.TheVariants as setting
use Rattle.plant_rim.specs.declared.file.line.PlantLine.{PlantLine}
use Rattle.plant_rim.specs.declared.file.line.PlantLine.TheVariants as line
use Rattle.plant_rim.specs.File.Acts.{act_of, condition_or_fault}
use Rattle.plant_rim.specs.File.Made.{made, time_of, up_to}
use Rattle.plant_rim.specs.File.Texts.{behind_word, cut_at, first_word, is_name, is_skipped, trimmed}

-- A function answered this value or fault. If an allocation was refused, nothing is promised.
abbrev pub Reads : {A : Type 0} → Result A PlantLineFault → Result A PlantReadFault → Type 0
Reads said (Ok value) = said ≡ Ok value
Reads said (Err (Line why)) = said ≡ Err why
Reads said (Err OutOfMemory) = Unit {0}

-- VALUES

abbrev pub percent_of : List ℕ → Result ℕ PlantLineFault
percent_of word = ok_or (up_to 100 word) fault.BadPercent

abbrev pub delay_of : List ℕ → Result ℕ PlantLineFault
delay_of word = ok_or (up_to 60000 word) fault.BadDelay

abbrev pub seed_of : List ℕ → Result ℕ PlantLineFault
seed_of word = ok_or (number_of 64 word) fault.BadSeed

abbrev pub not_zero : ℕ → Option ℕ
not_zero number = if number == 0 then None else Some number

abbrev pub seconds_of : List ℕ → Result ℕ PlantLineFault
seconds_of word = ok_or (option_and_then not_zero (up_to 1000000000 word)) fault.BadSeconds

abbrev pub at_of : List ℕ → Result DueTime PlantLineFault
at_of word = ok_or (option_map At (time_of word)) fault.BadTime

abbrev pub every_of : List ℕ → Result DueTime PlantLineFault
every_of word = ok_or (option_map Every (option_and_then not_zero (time_of word))) fault.BadTime

abbrev pub folder_of : List ℕ → Result (List ℕ) PlantLineFault
folder_of [] = Err fault.NoFolder
folder_of (byte ∷ bytes) = Ok (byte ∷ bytes)

abbrev pub address_reader : Reader Node
address_reader = do
  node ← next_word node_of
  ends node

-- an address, if there is one
abbrev pub address_of : List ℕ → Result (Option Node) PlantLineFault
address_of [] = Ok None
address_of (byte ∷ bytes) = ok_or (option_map (λ got. Some got.0) (address_reader (words_of (byte ∷ bytes)))) fault.BadAddress

-- a text of bytes
abbrev pub text_of : List ℕ → Result (List ℕ) PlantLineFault
text_of bytes = if is_utf8 bytes then Ok bytes else Err fault.NotText

-- a text, wherever it lies in memory
abbrev pub view_text : Result (Bor (List ℕ)) PlantLineFault → Result (List ℕ) PlantLineFault
view_text (Ok text) = Ok text.now
view_text (Err why) = Err why

-- LINES

abbrev pub device_with : (name profile : List ℕ) → Result (Option Node) PlantLineFault → Result PlantLine PlantLineFault
device_with name profile address = made (λ a. line.Device name profile a) address

abbrev pub device_named : (name profile address : List ℕ) → Result PlantLine PlantLineFault
device_named name [] address = Err fault.NoProfile
device_named name (byte ∷ bytes) address = device_with name (byte ∷ bytes) (address_of address)

-- NAME PROFILE [ADDRESS]
abbrev pub device_of : List ℕ → Result PlantLine PlantLineFault
device_of rest = if is_name (first_word rest) then device_named (first_word rest) (first_word (behind_word rest)) (behind_word (behind_word rest)) else Err fault.BadName

-- a line of a script that is due so, with its condition
abbrev pub script_with : DueTime → Option Condition → Result ScriptAct PlantLineFault → Result PlantLine PlantLineFault
script_with due guard (Err why) = Err why
script_with due guard (Ok said) = Ok (line.Script (record { due = due; guard = guard; act = said }))

abbrev pub guarded_with : DueTime → Result Condition PlantLineFault → Result ScriptAct PlantLineFault → Result PlantLine PlantLineFault
guarded_with due (Err why) said = Err why
guarded_with due (Ok guard) said = script_with due (Some guard) said

-- CONDITION do ACT
abbrev pub guarded_line : DueTime → Option (List ℕ × List ℕ) → Result PlantLine PlantLineFault
guarded_line due (Some cut) = guarded_with due (condition_or_fault cut.0) (act_of cut.1)
guarded_line due None = Err fault.NoDo

abbrev pub when_text : DueTime → List ℕ → Result PlantLine PlantLineFault
when_text due rest = guarded_line due (cut_at (codes " do ") rest)

abbrev pub unguarded : DueTime → List ℕ → (rest : List ℕ) → Result PlantLine PlantLineFault
unguarded due text rest = script_with due None (act_of text)

-- [when CONDITION do] ACT
abbrev pub script_due_at : DueTime → List ℕ → Result PlantLine PlantLineFault
script_due_at due text = meaning ((codes "when", when_text due) ∷ []) (unguarded due text) (first_word text) (behind_word text)

abbrev pub script_due : Result DueTime PlantLineFault → List ℕ → Result PlantLine PlantLineFault
script_due (Err why) text = Err why
script_due (Ok due) text = script_due_at due text

-- MS ACT
abbrev pub at_line : List ℕ → Result PlantLine PlantLineFault
at_line rest = script_due (at_of (first_word rest)) (behind_word rest)

abbrev pub every_line : List ℕ → Result PlantLine PlantLineFault
every_line rest = script_due (every_of (first_word rest)) (behind_word rest)

-- a line that waits for its condition from the beginning on
abbrev pub when_line : List ℕ → Result PlantLine PlantLineFault
when_line rest = when_text (At 0) rest

-- what the words of the file mean, each with what is behind it
abbrev pub line_meanings : Meanings (List ℕ → Result PlantLine PlantLineFault)
line_meanings =
    (codes "device", device_of)
    ∷ (codes "lose", λ rest. made (λ p. line.Fault (setting.Lose p)) (percent_of rest))
    ∷ (codes "repeat", λ rest. made (λ p. line.Fault (setting.Repeat p)) (percent_of rest))
    ∷ (codes "reorder", λ rest. made (λ p. line.Fault (setting.Reorder p)) (percent_of rest))
    ∷ (codes "delay", λ rest. made (λ ms. line.Fault (setting.Delay ms)) (delay_of rest))
    ∷ (codes "seed", λ rest. made (λ seed. line.Fault (setting.Seed seed)) (seed_of rest))
    ∷ (codes "at", at_line)
    ∷ (codes "every", every_line)
    ∷ (codes "when", when_line)
    ∷ (codes "seconds", λ rest. made line.Seconds (seconds_of rest))
    ∷ (codes "record", λ rest. made line.Record (folder_of rest))
    ∷ []

abbrev pub unknown : List ℕ → Result PlantLine PlantLineFault
unknown rest = Err fault.UnknownWord

-- a line that begins with this word
unfoldable pub worded : (word rest : List ℕ) → Result PlantLine PlantLineFault
worded word rest = meaning line_meanings unknown word rest

-- a line of this text
abbrev pub worded_text : Result (List ℕ) PlantLineFault → Result PlantLine PlantLineFault
worded_text (Ok text) = worded (first_word text) (behind_word text)
worded_text (Err why) = Err why

abbrev pub text_line : List ℕ → Result PlantLine PlantLineFault
text_line text = if is_skipped text then Ok line.Skipped else worded_text (text_of text)

-- the value of a line, or what is wrong with it
unfoldable pub line_of : List ℕ → Result PlantLine PlantLineFault
line_of bytes = text_line (trimmed bytes)
