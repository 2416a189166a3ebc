-- The word that a reason names: that word of the line, as a trace writes it, has the value that the reason has.
use Rattle.std.specs.Prelude.{ℕ, ◌≡◌, ◌-◌, List, [], length, get_or, codes, decimal, option_map, Option, Some, None}
use Rattle.std.specs.List.{slice_get}
use Rattle.cip_types.specs.declared.ids.IdBlock.{IdBlock}
use Rattle.adapter_table.specs.declared.profile.Description.{Description}
use Rattle.adapter_table.specs.declared.profile.InputPoint.{InputPoint}
use Rattle.scanner_table.specs.declared.profile.SlotConfig.{SlotConfig}
use Rattle.adapter_table.specs.declared.profile.Profile.{Profile}
use Rattle.scanner_table.specs.declared.profile.ScannerProfile.{ScannerProfile}
use Rattle.cip_tables.specs.declared.table.Config.{Config}
use Rattle.cip_tables.specs.declared.table.Config.TheVariants as config
use Rattle.trace_words.specs.Words.{node_word, bytes_word}
use Rattle.trace_lines.specs.WrittenProfiles.{adapter_words, output_words, point_words, description_words, object_words, ids_words, heartbeat_words}
use Rattle.trace_lines.specs.declared.limit_lines.LimitName.{LimitName}
use Rattle.trace_lines.specs.declared.limit_lines.LimitName.TheVariants as limit_name
use Rattle.trace_lines.specs.declared.limit_lines.LimitLine.{LimitLine}
use Rattle.trace_lines.specs.declared.limit_lines.LimitLine.TheVariants as limit
use Rattle.trace_lines.specs.Limits.{limit_words, number_word, stated_line}
use Rattle.trace_lines.specs.Slots.{scanner_words, openings_words, serials_words, slot_words}
use Rattle.trace_faults.specs.declared.profile_faults.defects.LineName.{LineName}
use Rattle.trace_faults.specs.declared.profile_faults.defects.LineName.TheVariants as name
use Rattle.trace_faults.specs.declared.profile_faults.defects.Defect.{Defect}
use Rattle.trace_faults.specs.declared.profile_faults.defects.Defect.TheVariants as defect
use Rattle.trace_faults.specs.declared.profile_faults.defects.ProfileReason.{ProfileReason}

-- LINES

-- the words of the line of an item; none if there is no such item
abbrev pub line_of : {A : Type 0} → (A → List (List ℕ)) → Option A → List (List ℕ)
line_of words None = []
line_of words (Some item) = words item

-- the words of the line of this name and index
abbrev pub adapter_line : Profile → LineName → ℕ → List (List ℕ)
adapter_line profile name.Adapter index = adapter_words profile
adapter_line profile name.Output index = line_of output_words (slice_get profile.outputs index)
adapter_line profile name.Input index = line_of (point_words (codes "input")) (slice_get profile.inputs index)
adapter_line profile name.Config index = line_of (point_words (codes "config")) profile.config
adapter_line profile name.Describe index = line_of description_words profile.description
adapter_line profile (name.Limit row) index = line_of limit_words (stated_line profile.limits row)
adapter_line profile name.Object index = line_of object_words (slice_get profile.objects index)
adapter_line profile name.Heartbeat index = heartbeat_words profile
adapter_line profile name.Scanner index = []
adapter_line profile name.Tidy index = []
adapter_line profile name.Openings index = []
adapter_line profile name.Serials index = []
adapter_line profile name.Ids index = line_of ids_words profile.ids
adapter_line profile name.Slot index = []

abbrev pub scanner_line : ScannerProfile → LineName → ℕ → List (List ℕ)
scanner_line profile name.Scanner index = scanner_words profile
scanner_line profile (name.Limit limit_name.Newer) index = line_of limit_words (option_map limit.Newer profile.newer)
scanner_line profile name.Openings index = line_of openings_words profile.openings
scanner_line profile name.Serials index = line_of serials_words profile.serials
scanner_line profile name.Ids index = line_of ids_words profile.ids
scanner_line profile name.Slot index = line_of slot_words (slice_get profile.slots index)
scanner_line profile other index = []

-- the word of this number, from 1; an empty one if there is none
abbrev pub word_at : List (List ℕ) → ℕ → List ℕ
word_at words number = get_or words (number - 1) []

-- VALUES

-- data of so many bytes
pub record AreBytes (word : List ℕ) (len : ℕ) : Type 0 where
  pub bytes : List ℕ
  pub are : word ≡ bytes_word bytes
  pub counted : length bytes ≡ len

-- the word has the value of the defect
abbrev pub IsWordOf : Defect → List ℕ → Type 0
IsWordOf defect.Incarnation word = word ≡ decimal 0
IsWordOf defect.NoFirstId word = word ≡ decimal 0
IsWordOf (defect.LateIds first count) word = word ≡ decimal count
IsWordOf (defect.Mask mask) word = word ≡ node_word mask
IsWordOf (defect.NetworkAddress node mask) word = word ≡ node_word node
IsWordOf defect.NoInput word = word ≡ codes "adapter"
IsWordOf (defect.ExtraOutput instance) word = word ≡ decimal instance
IsWordOf (defect.ExtraInput instance) word = word ≡ decimal instance
IsWordOf defect.NoSlot word = word ≡ codes "scanner"
IsWordOf (defect.ExtraSlot slot) word = word ≡ codes "slot"
IsWordOf (defect.Listener slot) word = word ≡ codes "p2p"
IsWordOf (defect.SameInstance instance other) word = word ≡ decimal instance
IsWordOf (defect.SameGroup slot other target point) word = word ≡ decimal point
IsWordOf (defect.OutputLen instance len) word = word ≡ decimal len
IsWordOf (defect.InputLen instance len) word = word ≡ decimal len
IsWordOf (defect.ConfigLen instance len) word = word ≡ decimal len
IsWordOf (defect.SlotOutput slot len) word = word ≡ decimal len
IsWordOf (defect.SlotHeartbeat slot kind len) word = word ≡ decimal len
IsWordOf (defect.SlotInput slot len) word = word ≡ decimal len
IsWordOf (defect.SlotConfiguration slot len) word = AreBytes word len
IsWordOf (defect.SlotNoConfiguration slot len) word = AreBytes word len
IsWordOf (defect.Interval slot direction us) word = word ≡ decimal us
IsWordOf (defect.Multiplier slot mult) word = word ≡ decimal mult
IsWordOf (defect.CyclicInhibit slot ms) word = word ≡ decimal ms
IsWordOf (defect.Inhibit slot ms api) word = word ≡ decimal ms
IsWordOf (defect.NoPace slot) word = word ≡ decimal 0
IsWordOf (defect.Openings most) word = word ≡ decimal most
IsWordOf defect.NoSerial word = word ≡ decimal 0
IsWordOf (defect.Waiting wait ms) word = word ≡ decimal ms
IsWordOf (defect.Major major) word = word ≡ decimal major
IsWordOf (defect.Minor minor) word = word ≡ decimal minor
IsWordOf defect.ClassInstance word = word ≡ codes "describe"
IsWordOf (defect.NameLen len) word = AreBytes word len
IsWordOf (defect.AddressLen len) word = AreBytes word len
IsWordOf (defect.Inactivity seconds) word = word ≡ decimal seconds
IsWordOf (defect.Limit said) word = word ≡ number_word said.number said.value
IsWordOf (defect.ExtraClass class) word = word ≡ decimal class
IsWordOf (defect.OtherClass class) word = word ≡ decimal class
IsWordOf (defect.SameClass class) word = word ≡ decimal class

-- the slot of the defect, if it is one of a slot, has this number
abbrev pub IsOfSlot : ℕ → Defect → Type 0
IsOfSlot index (defect.ExtraSlot slot) = slot ≡ index
IsOfSlot index (defect.Listener slot) = slot ≡ index
IsOfSlot index (defect.SameGroup slot other target point) = slot ≡ index
IsOfSlot index (defect.SlotOutput slot len) = slot ≡ index
IsOfSlot index (defect.SlotHeartbeat slot kind len) = slot ≡ index
IsOfSlot index (defect.SlotInput slot len) = slot ≡ index
IsOfSlot index (defect.SlotConfiguration slot len) = slot ≡ index
IsOfSlot index (defect.SlotNoConfiguration slot len) = slot ≡ index
IsOfSlot index (defect.Interval slot direction us) = slot ≡ index
IsOfSlot index (defect.Multiplier slot mult) = slot ≡ index
IsOfSlot index (defect.CyclicInhibit slot ms) = slot ≡ index
IsOfSlot index (defect.Inhibit slot ms api) = slot ≡ index
IsOfSlot index (defect.NoPace slot) = slot ≡ index
IsOfSlot index other = Unit {0}

-- REASONS

-- the reason names a word of the adapter's first line
abbrev pub NamesAdapterWord : Profile → ProfileReason → Type 0
NamesAdapterWord profile reason =
    (reason.place.line ≡ name.Adapter) × IsWordOf reason.defect (word_at (adapter_words profile) reason.place.word)

abbrev pub NamesScannerWord : ScannerProfile → ProfileReason → Type 0
NamesScannerWord profile reason =
    (reason.place.line ≡ name.Scanner) × (IsWordOf reason.defect (word_at (scanner_words profile) reason.place.word)
    × IsOfSlot reason.place.index reason.defect)

-- the reason names a word of the line of one of these items
abbrev pub NamesItemWord : {A : Type 0} → LineName → (A → List (List ℕ)) → List A → ProfileReason → Type 0
NamesItemWord line words items reason =
    (reason.place.line ≡ line) × IsWordOf reason.defect (word_at (line_of words (slice_get items reason.place.index)) reason.place.word)

abbrev pub NamesConfigWord : Option InputPoint → ProfileReason → Type 0
NamesConfigWord point reason =
    (reason.place.line ≡ name.Config) × IsWordOf reason.defect (word_at (line_of (point_words (codes "config")) point) reason.place.word)

abbrev pub NamesDescribedWord : Option Description → ProfileReason → Type 0
NamesDescribedWord described reason =
    (reason.place.line ≡ name.Describe) × IsWordOf reason.defect (word_at (line_of description_words described) reason.place.word)

-- the reason names the number of the line of the most openings, or of the first serial number
abbrev pub NamesOpenings : Option ℕ → ProfileReason → Type 0
NamesOpenings openings reason =
    (reason.place.line ≡ name.Openings) × (IsWordOf reason.defect (word_at (line_of openings_words openings) reason.place.word)
    × IsOfSlot reason.place.index reason.defect)

-- the word that a reason names is of the line of the connection ids, and has the reason's value
abbrev pub NamesIds : Option IdBlock → ProfileReason → Type 0
NamesIds ids reason =
    (reason.place.line ≡ name.Ids) × (IsWordOf reason.defect (word_at (line_of ids_words ids) reason.place.word))

abbrev pub NamesSerials : Option ℕ → ProfileReason → Type 0
NamesSerials serials reason =
    (reason.place.line ≡ name.Serials) × (IsWordOf reason.defect (word_at (line_of serials_words serials) reason.place.word)
    × IsOfSlot reason.place.index reason.defect)

-- the reason names a word of this line of a limit
abbrev pub NamesLimitWord : LimitName → Option LimitLine → ProfileReason → Type 0
NamesLimitWord row stated reason =
    (reason.place.line ≡ name.Limit row) × IsWordOf reason.defect (word_at (line_of limit_words stated) reason.place.word)

-- the class of the defect is that of one of these lines, by its index
abbrev pub NamesClass : List ℕ → ℕ → Defect → Type 0
NamesClass classes index found = IsWordOf found (word_at (line_of object_words (slice_get classes index)) 2)

-- the defect is in this word of the slot of this number
abbrev pub IsInSlot : ℕ → SlotConfig → ℕ → Defect → Type 0
IsInSlot index slot word found = IsWordOf found (word_at (slot_words slot) word) × IsOfSlot index found

-- the reason names a word of the slot of this number
abbrev pub NamesSlotWord : ℕ → SlotConfig → ProfileReason → Type 0
NamesSlotWord index slot reason =
    (reason.place.line ≡ name.Slot) × ((reason.place.index ≡ index) × IsInSlot index slot reason.place.word reason.defect)

-- the reason names a word of one of the slots
abbrev pub NamesWordOfSlots : List SlotConfig → ProfileReason → Type 0
NamesWordOfSlots slots reason =
    (reason.place.line ≡ name.Slot) × (IsWordOf reason.defect (word_at (line_of slot_words (slice_get slots reason.place.index)) reason.place.word)
    × IsOfSlot reason.place.index reason.defect)

-- The word that the reason names, in its line as a trace writes it, has the value of the defect.
abbrev pub NamesWord : Profile → ProfileReason → Type 0
NamesWord profile reason =
    IsWordOf reason.defect (word_at (adapter_line profile reason.place.line reason.place.index) reason.place.word)

-- the same of a scanner; a slot's defect is that of the line's slot
abbrev pub NamesWordOfScanner : ScannerProfile → ProfileReason → Type 0
NamesWordOfScanner profile reason =
    IsWordOf reason.defect (word_at (scanner_line profile reason.place.line reason.place.index) reason.place.word)
    × IsOfSlot reason.place.index reason.defect

-- the same of a device of either kind
abbrev pub NamesWordIn : Config → ProfileReason → Type 0
NamesWordIn (config.Adapter profile) reason = NamesWord profile reason
NamesWordIn (config.Scanner profile) reason = NamesWordOfScanner profile reason
