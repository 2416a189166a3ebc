-- What no station can serve, in words: a sentence names a line and a word of the profile, and says what is wrong there.
use Rattle.std.specs.Prelude.{ℕ, List, [], ◌++◌, codes, decimal, slice_get, Option, Some, None}
use Rattle.cip_tables.specs.declared.table.Config.{Config}
use Rattle.cip_tables.specs.declared.table.Config.TheVariants.{Adapter, Scanner}
use Rattle.cip_types.specs.declared.names.Node.{Node}
use Rattle.scanner_table.specs.declared.profile.SlotConfig.{SlotConfig}
use Rattle.trace_faults.specs.declared.profile_faults.defects.LineName.TheVariants.{Describe, Slot}
use Rattle.trace_faults.specs.declared.profile_faults.defects.WordPlace.{WordPlace}
use Rattle.trace_words.specs.Words.{node_word}
use Rattle.station_setup.specs.declared.unservable.defect.StationDefect.{StationDefect}
use Rattle.station_setup.specs.declared.unservable.defect.StationDefect.TheVariants.{NoPort, OwnTarget, SharedOutput}

-- the TCP port is the fourth word of `describe`; a slot's target is the second word of its line, and its output the fifth
abbrev pub word_of : StationDefect → WordPlace
word_of NoPort = record { line = Describe; index = 0; word = 4 }
word_of (OwnTarget slot) = record { line = Slot; index = slot; word = 2 }
word_of (SharedOutput slot other) = record { line = Slot; index = slot; word = 5 }

-- the slot whose line the sentence names too
abbrev pub other_of : StationDefect → Option ℕ
other_of (SharedOutput slot other) = Some other
other_of defect = None

abbrev pub target_in : Option SlotConfig → Node
target_in (Some slot) = slot.target
target_in None = record { 0 = 0 }

abbrev pub target_at : List SlotConfig → ℕ → Node
target_at slots slot = target_in (slice_get slots slot)

-- the target of a slot
abbrev pub target_of : Config → ℕ → Node
target_of (Adapter profile) slot = record { 0 = 0 }
target_of (Scanner profile) slot = target_at profile.slots slot

abbrev pub output_in : Option SlotConfig → ℕ
output_in (Some slot) = slot.consumed
output_in None = 0

abbrev pub output_at : List SlotConfig → ℕ → ℕ
output_at slots slot = output_in (slice_get slots slot)

-- the output that a slot consumes at its target
abbrev pub output_of : Config → ℕ → ℕ
output_of (Adapter profile) slot = 0
output_of (Scanner profile) slot = output_at profile.slots slot

-- a line, where it is known, and a word
abbrev pub front_text : Option ℕ → ℕ → List ℕ
front_text (Some line) word = codes "line " ++ (decimal line ++ (codes ": word " ++ (decimal word ++ codes ": ")))
front_text None word = codes "word " ++ (decimal word ++ codes ": ")

abbrev pub own_text : Node → ℕ → List ℕ
own_text target slot = codes "the target of slot " ++ (decimal slot ++ (codes " is " ++ (node_word target ++ codes ", the scanner itself")))

abbrev pub shared_text : Node → (point slot other : ℕ) → List ℕ
shared_text target point slot other = codes "slot " ++ (decimal slot ++ (codes " owns the output " ++ (decimal point ++ (codes " of " ++ (node_word target ++ (codes ", which has one owner: slot " ++ decimal other))))))

-- what is wrong
abbrev pub value_text : Config → StationDefect → List ℕ
value_text config NoPort = codes "a station listens at a TCP port from 1 to 65535, and 0 is none"
value_text config (OwnTarget slot) = own_text (target_of config slot) slot
value_text config (SharedOutput slot other) = shared_text (target_of config slot) (output_of config slot) slot other

-- the line of the other slot, where it is known
abbrev pub behind_text : Option ℕ → List ℕ
behind_text (Some line) = codes " in line " ++ decimal line
behind_text None = []

-- the sentence of a defect in this line, and of a slot in another one
abbrev pub defect_text : Config → StationDefect → (line other : Option ℕ) → List ℕ
defect_text config defect line other = front_text line (word_of defect).word ++ (value_text config defect ++ (behind_text other ++ codes "\n"))
