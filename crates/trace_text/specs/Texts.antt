-- Which texts write a trace: the lines of its profile, and then for each event its line and the lines of its recorded
-- outcome. LF ends each line. Empty lines and lines that begin with `#` are skipped, and counted.
use Rattle.std.specs.Prelude.{ℕ, ◌+◌, ◌≡◌, ◌≢◌, ◌⊎◌, if◌then◌else◌, Bool, true, false, List, [], ◌∷◌, ◌++◌, length, map, flat_map, is_none, option_map, option_to_list, Option, Some, None, Result, Ok, Err}
use Rattle.std.specs.List.{All}
use Rattle.cip_types.specs.declared.ids.IdBlock.{IdBlock}
use Rattle.adapter_table.specs.declared.profile.Profile.{Profile}
use Rattle.scanner_table.specs.declared.profile.ScannerProfile.{ScannerProfile}
use Rattle.scanner_table.specs.declared.profile.SlotConfig.{SlotConfig}
use Rattle.cip_events.specs.declared.event.Event.TheVariants as event
use Rattle.cip_events.specs.declared.profile_fault.ProfileFault.{ProfileFault}
use Rattle.cip_events.specs.Faults.{fault_number}
use Rattle.cip_events.specs.Outcomes.{Outcome}
use Rattle.cip_tables.specs.declared.table.Config.{Config}
use Rattle.cip_tables.specs.declared.table.Config.TheVariants as config
use Rattle.cip_tables.specs.Step.{config_fault}
use Rattle.trace_lines.specs.declared.forms.AdapterLine.{AdapterLine}
use Rattle.trace_lines.specs.declared.forms.HeartbeatLine.{HeartbeatLine}
use Rattle.trace_lines.specs.declared.forms.ScannerLine.{ScannerLine}
use Rattle.trace_lines.specs.declared.forms.ScannerTerms.{ScannerTerms}
use Rattle.trace_lines.specs.declared.forms.TermLine.{TermLine}
use Rattle.trace_lines.specs.declared.forms.TermLine.TheVariants as term
use Rattle.trace_lines.specs.declared.limit_lines.LimitLine.TheVariants.{Newer}
use Rattle.trace_lines.specs.Slots.{terms_of}
use Rattle.trace_lines.specs.Limits.{limit_lines}
use Rattle.trace_outcomes.specs.declared.part.Part.{Part}
use Rattle.trace_outcomes.specs.declared.part.Part.TheVariants as part
use Rattle.trace_text.specs.declared.forms.TraceLine.{TraceLine}
use Rattle.trace_text.specs.declared.forms.TraceLine.TheVariants as line
use Rattle.trace_text.specs.declared.trace.Trace.{Trace}
use Rattle.trace_text.specs.declared.trace.TraceFault.{TraceFault}
use Rattle.trace_text.specs.declared.trace.TraceFault.TheVariants as fault
use Rattle.trace_text.specs.Forms.{line_of}
use Rattle.trace_text.specs.Reading.{Entry, early_block, is_line_feed, is_skipped}

-- THE LINES OF A TRACE, IN THEIR ORDER

-- the first line of an adapter's profile, and the last one
abbrev pub adapter_line_of : Profile → AdapterLine
adapter_line_of profile = record { incarnation = profile.incarnation; node = profile.node; mask = profile.mask; identity = profile.identity }

abbrev pub heartbeat_line_of : Profile → HeartbeatLine
heartbeat_line_of profile = record { input_only = profile.input_only; listen_only = profile.listen_only }

-- the first line of a scanner's profile
abbrev pub scanner_line_of : ScannerProfile → ScannerLine
scanner_line_of profile = record { incarnation = profile.incarnation; node = profile.node; vendor = profile.vendor; serial = profile.serial; open_timeout = profile.open_timeout; retry = profile.retry }

-- the line of a scanner that is tidy
abbrev pub tidy_lines : Bool → List TermLine
tidy_lines true = term.Tidy ∷ []
tidy_lines false = []

-- the lines of what is said of openings
abbrev pub term_lines : ScannerTerms → List TermLine
term_lines terms = tidy_lines terms.tidy ++ (map term.Openings (option_to_list terms.openings) ++ map term.Serials (option_to_list terms.serials))

-- the line of a block of connection ids, which is that of an event
abbrev pub ids_line : IdBlock → TraceLine
ids_line block = line.Event (event.Ids block)

abbrev pub ids_lines : Option IdBlock → List TraceLine
ids_lines ids = map ids_line (option_to_list ids)

-- a profile: an adapter's outputs, inputs, configuration, description, limits, own classes, connection ids and heartbeats, or a
-- scanner's limit on numbers, what it says of openings, its connection ids, and its slots
abbrev pub config_values : Config → List TraceLine
config_values (config.Adapter profile) =
    line.Adapter (adapter_line_of profile)
    ∷ (map line.Output profile.outputs
    ++ (map line.Input profile.inputs
    ++ (map line.Config (option_to_list profile.config)
    ++ (map line.Description (option_to_list profile.description)
    ++ (map line.Limit (limit_lines profile.limits)
    ++ (map line.Object profile.objects
    ++ (ids_lines profile.ids
    ++ line.Heartbeat (heartbeat_line_of profile) ∷ [])))))))
config_values (config.Scanner profile) =
    line.Scanner (scanner_line_of profile)
    ∷ (map line.Limit (option_to_list (option_map Newer profile.newer)) ++ (map line.Term (term_lines (terms_of profile)) ++ (ids_lines profile.ids ++ map line.Slot profile.slots)))

-- an outcome: the verdict, the frames, the datagrams and the notices, or the fault
abbrev pub outcome_parts : Outcome → List Part
outcome_parts (Ok answer) =
    part.Verdict answer.verdict
    ∷ (map part.Frame answer.frames
    ++ (map part.Datagram answer.datagrams
    ++ map part.Notice answer.notices))
outcome_parts (Err why) = part.Fault why ∷ []

abbrev pub recorded_parts : Option Outcome → List Part
recorded_parts None = []
recorded_parts (Some outcome) = outcome_parts outcome

-- an event of this number, and its outcome if it is recorded
abbrev pub entry_values : ℕ → Entry → List TraceLine
entry_values number entry = line.Event entry.0 ∷ map (line.Recorded number) (recorded_parts entry.1)

-- events, the first of this number
abbrev pub entries_values : ℕ → List Entry → List TraceLine
entries_values number [] = []
entries_values number (entry ∷ entries) = entry_values number entry ++ entries_values (number + 1) entries

abbrev pub trace_values : Trace → List TraceLine
trace_values trace = config_values trace.config ++ entries_values 1 trace.events

-- A line `ids` behind a scanner that has no slot yet is of its profile. So it writes no event there.
abbrev pub may_begin : List SlotConfig → List Entry → Bool
may_begin slots [] = true
may_begin slots (first ∷ entries) = is_none (early_block slots first.0)

abbrev pub may_follow : Config → List Entry → Bool
may_follow (config.Adapter profile) entries = true
may_follow (config.Scanner profile) entries = may_begin profile.slots entries

-- THE LINES OF A TEXT

-- a line, in which there is no LF
abbrev pub IsOneLine : List ℕ → Type 0
IsOneLine text = All (λ byte. is_line_feed byte ≡ false) text

-- lines, each with the LF that ends it
abbrev pub ended_lines : List (List ℕ) → List ℕ
ended_lines lines = flat_map (λ text. text ++ 10 ∷ []) lines

-- the values of the lines that are not skipped; None for what is no line of a trace
abbrev pub said_by : List (List ℕ) → List (Option TraceLine)
said_by [] = []
said_by (text ∷ lines) = if is_skipped text then said_by lines else line_of text ∷ said_by lines

-- these lines write the trace
pub record WriteTrace (lines : List (List ℕ)) (trace : Trace) : Type 0 where
  pub follow : may_follow trace.config trace.events ≡ true
  pub are : said_by lines ≡ map Some (trace_values trace)

-- these lines begin the lines of some trace
pub record BeginTrace (lines : List (List ℕ)) : Type 0 where
  pub trace : Trace
  pub follow : may_follow trace.config trace.events ≡ true
  pub more : List TraceLine
  pub is : said_by lines ++ map Some more ≡ map Some (trace_values trace)

-- THE TEXT OF A TRACE

-- the text writes the trace
pub record IsTraceText (text : List ℕ) (trace : Trace) : Type 0 where
  pub lines : List (List ℕ)
  pub are_lines : All IsOneLine lines
  pub are_all : text ≡ ended_lines lines
  pub write : WriteTrace lines trace

-- the next line begins no trace together with those before it
pub record IsBadNext (before : List (List ℕ)) (rest : List ℕ) : Type 0 where
  pub next : List ℕ
  pub after : List ℕ
  pub parted : rest ≡ next ++ 10 ∷ after
  pub is_line : IsOneLine next
  pub bad : ¬ (BeginTrace (before ++ next ∷ []))

-- there is no next line: bytes follow that no LF ends, or the lines are no whole trace
abbrev pub IsBadEnd : List (List ℕ) → List ℕ → Type 0
IsBadEnd before rest = IsOneLine rest × ((rest ≢ []) ⊎ ((trace : Trace) → ¬ (WriteTrace before trace)))

-- the line of this number is the first that is not allowed there: the lines before it begin a trace
pub record IsBadLine (text : List ℕ) (number : ℕ) : Type 0 where
  pub before : List (List ℕ)
  pub rest : List ℕ
  pub are_lines : All IsOneLine before
  pub parted : text ≡ ended_lines before ++ rest
  pub counted : number ≡ 1 + length before
  pub begin : BeginTrace before
  pub bad : IsBadNext before rest ⊎ IsBadEnd before rest

-- the text writes a trace whose profile has this first fault
pub record IsBadProfile (text : List ℕ) (number : ℕ) : Type 0 where
  pub trace : Trace
  pub first : ProfileFault
  pub is_text : IsTraceText text trace
  pub is_first : config_fault trace.config ≡ Some first
  pub numbered : number ≡ fault_number first

-- The result is a reading of the text. That an allocation was refused is no reading.
abbrev pub IsTraceReading : List ℕ → Result Trace TraceFault → Type 0
IsTraceReading text (Ok trace) = IsTraceText text trace × (config_fault trace.config ≡ None)
IsTraceReading text (Err (fault.BadLine number)) = IsBadLine text number
IsTraceReading text (Err (fault.BadProfile number)) = IsBadProfile text number
IsTraceReading text (Err fault.OutOfMemory) = ⊥
