-- The lines of a story, each as its value or what is wrong with it.
use Rattle.std.specs.Prelude.{ℕ, if◌then◌else◌, ◌+◌, ◌==◌, length, drop, slice_index_or, Bool, List, [], ◌∷◌, codes, Option, Some, None, Result, Ok, Err, ◌≡◌}
use Rattle.trace_text.specs.Forms.{is_ascii}
use Rattle.trace_words.specs.Words.{is_word, words_of}
use Rattle.world_command.specs.declared.story.acts.StoryAct.{StoryAct}
use Rattle.world_command.specs.declared.story.faults.StoryLineFault.{StoryLineFault}
use Rattle.world_command.specs.declared.story.faults.StoryLineFault.TheVariants as fault
use Rattle.world_command.specs.declared.story.faults.StoryReadFault.{StoryReadFault}
use Rattle.world_command.specs.declared.story.faults.StoryReadFault.TheVariants.{Line, OutOfMemory}
use Rattle.world_command.specs.declared.story.line.StoryLine.{StoryLine}
use Rattle.world_command.specs.declared.story.line.StoryLine.TheVariants as line
use Rattle.world_command.specs.Story.Acts.{act_of}
use Rattle.world_command.specs.Story.Names.{device_at, is_name}

-- A function answered this value or fault. If an allocation was refused, nothing is promised.
abbrev pub Reads : {A : Type 0} → Result A StoryLineFault → Result A StoryReadFault → Type 0
Reads said (Ok value) = said ≡ Ok value
Reads said (Err (Line why)) = said ≡ Err why
Reads said (Err OutOfMemory) = Unit {0}

-- DEVICES

-- a device of this name with the profile at this path
abbrev pub profile_line : (name profile : List ℕ) → Result StoryLine StoryLineFault
profile_line name [] = Err fault.NoProfile
profile_line name (byte ∷ bytes) = Ok (line.Device (record { name = name; profile = byte ∷ bytes }))

-- PROFILE, behind the name of a new device
abbrev pub profile_words : List ℕ → List (List ℕ) → Result StoryLine StoryLineFault
profile_words name [] = Err fault.NoProfile
profile_words name (profile ∷ []) = profile_line name profile
profile_words name (profile ∷ word ∷ words) = Err fault.NoProfile

-- the same, unless an earlier device has the name
abbrev pub new_device : List ℕ → List (List ℕ) → Option ℕ → Result StoryLine StoryLineFault
new_device name words None = profile_words name words
new_device name words (Some earlier) = Err fault.SameName

-- NAME PROFILE
abbrev pub device_line : List (List ℕ) → List (List ℕ) → Result StoryLine StoryLineFault
device_line names [] = Err fault.BadName
device_line names (name ∷ words) = if is_name name then new_device name words (device_at names name) else Err fault.BadName

-- ACTS

abbrev pub act_by : ℕ → Option StoryAct → Result StoryLine StoryLineFault
act_by device None = Err fault.NoAct
act_by device (Some act) = Ok (line.Act device act)

abbrev pub act_at : Option ℕ → Option StoryAct → Result StoryLine StoryLineFault
act_at None act = Err fault.UnknownDevice
act_at (Some device) act = act_by device act

-- the act of the device of this name, in a line of this text; the words are those behind the name
abbrev pub act_line : List (List ℕ) → (text name : List ℕ) → List (List ℕ) → Result StoryLine StoryLineFault
act_line names text name words = act_at (device_at names name) (act_of names words (drop (length name + 1) text))

-- LINES

-- a line of this text, whose words these are
abbrev pub words_line : List (List ℕ) → List ℕ → List (List ℕ) → Result StoryLine StoryLineFault
words_line names text [] = Err fault.NoAct
words_line names text (word ∷ words) = if is_word (codes "device") word then device_line names words else act_line names text word words

abbrev pub text_line : List (List ℕ) → List ℕ → Result StoryLine StoryLineFault
text_line names text = words_line names text (words_of text)

abbrev pub ascii_line : List (List ℕ) → List ℕ → Result StoryLine StoryLineFault
ascii_line names text = if is_ascii text then text_line names text else Err fault.NotAscii

-- the line is a comment, which begins with #
abbrev pub is_comment : List ℕ → Bool
is_comment line = slice_index_or line 0 0 == 35

-- the value of a line behind the devices with these names, or what is wrong with it
unfoldable pub line_of : List (List ℕ) → List ℕ → Result StoryLine StoryLineFault
line_of names bytes = if length bytes == 0 then Ok line.Skipped else (if is_comment bytes then Ok line.Comment else ascii_line names bytes)
