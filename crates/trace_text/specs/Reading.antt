-- How a text is read as a trace, line by line. LF ends a line. Empty lines and lines that begin with `#` are skipped,
-- and counted.
use Rattle.std.specs.Prelude.{ℕ, ◌+◌, ◌≡◌, ◌==◌, ◌&&◌, not, if◌then◌else◌, Bool, true, false, List, [], ◌∷◌, ◌++◌, length, is_none, option_map, option_and_then, option_to_list, ok_or, Option, Some, None, Result, Ok, Err}
use Rattle.std.specs.List.{slice_split}
use Rattle.adapter_table.specs.declared.profile.OutputPoint.{OutputPoint}
use Rattle.adapter_table.specs.declared.profile.InputPoint.{InputPoint}
use Rattle.adapter_table.specs.declared.profile.Description.{Description}
use Rattle.adapter_table.specs.Profiles.{no_limits}
use Rattle.cip_events.specs.declared.profile_fault.ProfileFault.{ProfileFault}
use Rattle.cip_tables.specs.declared.table.Config.{Config}
use Rattle.cip_tables.specs.declared.table.Config.TheVariants as config
use Rattle.cip_types.specs.declared.ids.IdBlock.{IdBlock}
use Rattle.cip_events.specs.declared.event.Event.{Event}
use Rattle.cip_events.specs.declared.event.Event.TheVariants as event
use Rattle.cip_tables.specs.Step.{config_fault}
use Rattle.cip_events.specs.Faults.{fault_number}
use Rattle.cip_events.specs.Outcomes.{Outcome}
use Rattle.scanner_table.specs.declared.profile.SlotConfig.{SlotConfig}
use Rattle.trace_lines.specs.declared.forms.AdapterLine.{AdapterLine}
use Rattle.trace_lines.specs.declared.forms.ScannerLine.{ScannerLine}
use Rattle.trace_lines.specs.declared.forms.ScannerTerms.{ScannerTerms}
use Rattle.trace_lines.specs.declared.forms.TermLine.{TermLine}
use Rattle.trace_lines.specs.declared.forms.TermLine.TheVariants as term
use Rattle.trace_lines.specs.declared.forms.HeartbeatLine.{HeartbeatLine}
use Rattle.trace_lines.specs.declared.limit_lines.LimitLine.{LimitLine}
use Rattle.trace_lines.specs.declared.limit_lines.LimitLine.TheVariants.{Newer}
use Rattle.trace_lines.specs.Limits.{with_limit}
use Rattle.trace_text.specs.declared.forms.TraceLine.{TraceLine}
use Rattle.trace_text.specs.declared.forms.TraceLine.TheVariants as line
use Rattle.trace_outcomes.specs.declared.part.Part.{Part}
use Rattle.trace_text.specs.declared.builder.ProfileFront.{ProfileFront}
use Rattle.trace_text.specs.declared.builder.TraceBuilder.{TraceBuilder}
use Rattle.trace_text.specs.declared.builder.TraceBuilder.TheVariants.{Empty, Points, Configured, Stated, Objects, Counted, Slots, Events}
use Rattle.trace_text.specs.declared.trace.Trace.{Trace}
use Rattle.trace_text.specs.declared.trace.TraceFault.{TraceFault}
use Rattle.trace_text.specs.declared.trace.TraceFault.TheVariants as fault
use Rattle.trace_text.specs.Forms.{line_of}
use Rattle.trace_words.specs.declared.words.TextFault.{TextFault}
use Rattle.trace_words.specs.declared.words.TextFault.TheVariants.{Bad, OutOfMemory}
use Rattle.trace_lines.specs.Profiles.{profile_with}
use Rattle.trace_lines.specs.Slots.{scanner_with}
use Rattle.trace_text.specs.Recorded.{recorded_with}

-- A TRACE, LINE BY LINE

-- an event, and its outcome if it is recorded
abbrev pub Entry : Type 0
Entry = Event × Option Outcome

-- an output comes before all inputs
abbrev pub with_output : AdapterLine → List OutputPoint → List InputPoint → OutputPoint → Option TraceBuilder
with_output adapter outputs inputs output = if length inputs == 0 then Some (Points adapter (outputs ++ output ∷ []) inputs) else None

-- a profile up to its description, if it has one, before its limits
abbrev pub front_of : AdapterLine → List OutputPoint → List InputPoint → Option InputPoint → Option Description → ProfileFront
front_of adapter outputs inputs settings described = record {
  adapter = adapter;
  outputs = outputs;
  inputs = inputs;
  config = settings;
  description = described;
  limits = no_limits;
}

-- one limit more, in their order
abbrev pub with_stated : ProfileFront → LimitLine → Option TraceBuilder
with_stated front limit = option_map (λ more. Stated (record front { limits = more })) (with_limit front.limits limit)

-- one class of the maker's own objects more
abbrev pub with_object : ProfileFront → List ℕ → ℕ → Option TraceBuilder
with_object front objects class = Some (Objects front (objects ++ class ∷ []))

-- the whole profile of an adapter
abbrev pub with_profile : ProfileFront → List ℕ → Option IdBlock → HeartbeatLine → Option TraceBuilder
with_profile front objects ids heartbeat = Some (Events (config.Adapter (profile_with front.adapter front.outputs front.inputs front.config front.description front.limits objects ids heartbeat)) [] None)

-- nothing is said of openings
abbrev pub no_terms : ScannerTerms
no_terms = record { tidy = false; openings = None; serials = None; ids = None }

-- neither the first serial number nor the ids are stated
abbrev pub are_uncounted : ScannerTerms → Bool
are_uncounted terms = is_none terms.serials && is_none terms.ids

-- nor the most openings
abbrev pub none_stated : ScannerTerms → Bool
none_stated terms = is_none terms.openings && are_uncounted terms

-- a scanner's limit on numbers, which comes once, before what is said of openings and before all slots
abbrev pub with_newer : ScannerLine → Option ℕ → ScannerTerms → List SlotConfig → LimitLine → Option TraceBuilder
with_newer scanner newer terms slots (Newer within) =
    if is_none newer && (not terms.tidy && (none_stated terms && length slots == 0)) then Some (Slots scanner (Some within) terms slots) else None
with_newer scanner newer terms slots other = None

-- one line more of what is said of openings: each comes once, in this order
abbrev pub with_line : ScannerTerms → TermLine → Option ScannerTerms
with_line terms term.Tidy = if not terms.tidy && none_stated terms then Some (record terms { tidy = true }) else None
with_line terms (term.Openings most) = if none_stated terms then Some (record terms { openings = Some most }) else None
with_line terms (term.Serials first) = if are_uncounted terms then Some (record terms { serials = Some first }) else None

-- these lines come before all slots
abbrev pub with_term : ScannerLine → Option ℕ → ScannerTerms → List SlotConfig → TermLine → Option TraceBuilder
with_term scanner newer terms slots said = if length slots == 0 then option_map (λ more. Slots scanner newer more slots) (with_line terms said) else None

-- the block of an event that gives one
abbrev pub given_block : Event → Option IdBlock
given_block (event.Ids block) = Some block
given_block other = None

-- the block of a scanner's profile, which comes before all slots
abbrev pub early_block : List SlotConfig → Event → Option IdBlock
early_block slots happens = if length slots == 0 then given_block happens else None

-- the block of an adapter's profile, before the points without data
abbrev pub with_ids : ProfileFront → List ℕ → Event → Option TraceBuilder
with_ids front objects happens = option_map (λ block. Counted front objects block) (given_block happens)

-- the block of a scanner's profile, which comes once
abbrev pub with_block : ScannerLine → Option ℕ → ScannerTerms → List SlotConfig → IdBlock → Option TraceBuilder
with_block scanner newer terms slots block = if is_none terms.ids then Some (Slots scanner newer (record terms { ids = Some block }) slots) else None

-- that block, or the first event behind the profile
abbrev pub with_event : ScannerLine → Option ℕ → ScannerTerms → List SlotConfig → Event → Option IdBlock → Option TraceBuilder
with_event scanner newer terms slots happens (Some block) = with_block scanner newer terms slots block
with_event scanner newer terms slots happens None = Some (Events (config.Scanner (scanner_with scanner newer terms slots)) [] (Some (happens, None)))

-- a part of the outcome of the event that came last, whose number it has
abbrev pub with_part : Config → List Entry → Entry → ℕ → Part → Option TraceBuilder
with_part made_of entries last number parsed = if number == length entries + 1 then option_map (λ outcome. Events made_of entries (Some (last.0, Some outcome))) (recorded_with last.1 parsed) else None

-- the part that was read so far, with one line more; None if the line is not allowed there
abbrev pub builder_with : TraceBuilder → TraceLine → Option TraceBuilder
builder_with Empty (line.Adapter adapter) = Some (Points adapter [] [])
builder_with Empty (line.Scanner scanner) = Some (Slots scanner None no_terms [])
builder_with (Points adapter outputs inputs) (line.Output output) = with_output adapter outputs inputs output
builder_with (Points adapter outputs inputs) (line.Input input) = Some (Points adapter outputs (inputs ++ input ∷ []))
builder_with (Points adapter outputs inputs) (line.Config point) = Some (Configured adapter outputs inputs point)
builder_with (Points adapter outputs inputs) (line.Description described) = Some (Stated (front_of adapter outputs inputs None (Some described)))
builder_with (Points adapter outputs inputs) (line.Limit limit) = with_stated (front_of adapter outputs inputs None None) limit
builder_with (Points adapter outputs inputs) (line.Object class) = with_object (front_of adapter outputs inputs None None) [] class
builder_with (Points adapter outputs inputs) (line.Event happens) = with_ids (front_of adapter outputs inputs None None) [] happens
builder_with (Points adapter outputs inputs) (line.Heartbeat heartbeat) = with_profile (front_of adapter outputs inputs None None) [] None heartbeat
builder_with (Configured adapter outputs inputs point) (line.Description described) = Some (Stated (front_of adapter outputs inputs (Some point) (Some described)))
builder_with (Configured adapter outputs inputs point) (line.Limit limit) = with_stated (front_of adapter outputs inputs (Some point) None) limit
builder_with (Configured adapter outputs inputs point) (line.Object class) = with_object (front_of adapter outputs inputs (Some point) None) [] class
builder_with (Configured adapter outputs inputs point) (line.Event happens) = with_ids (front_of adapter outputs inputs (Some point) None) [] happens
builder_with (Configured adapter outputs inputs point) (line.Heartbeat heartbeat) = with_profile (front_of adapter outputs inputs (Some point) None) [] None heartbeat
builder_with (Stated front) (line.Limit limit) = with_stated front limit
builder_with (Stated front) (line.Object class) = with_object front [] class
builder_with (Stated front) (line.Event happens) = with_ids front [] happens
builder_with (Stated front) (line.Heartbeat heartbeat) = with_profile front [] None heartbeat
builder_with (Objects front objects) (line.Object class) = with_object front objects class
builder_with (Objects front objects) (line.Event happens) = with_ids front objects happens
builder_with (Objects front objects) (line.Heartbeat heartbeat) = with_profile front objects None heartbeat
builder_with (Counted front objects block) (line.Heartbeat heartbeat) = with_profile front objects (Some block) heartbeat
builder_with (Slots scanner newer terms slots) (line.Limit limit) = with_newer scanner newer terms slots limit
builder_with (Slots scanner newer terms slots) (line.Term said) = with_term scanner newer terms slots said
builder_with (Slots scanner newer terms slots) (line.Slot slot) = Some (Slots scanner newer terms (slots ++ slot ∷ []))
builder_with (Slots scanner newer terms slots) (line.Event happens) = with_event scanner newer terms slots happens (early_block slots happens)
builder_with (Events made_of entries last) (line.Event happens) = Some (Events made_of (entries ++ option_to_list last) (Some (happens, None)))
builder_with (Events made_of entries (Some last)) (line.Recorded number parsed) = with_part made_of entries last number parsed
builder_with builder parsed = None

-- whether a line is empty, or begins with `#`
abbrev pub is_skipped : List ℕ → Bool
is_skipped [] = true
is_skipped (first ∷ rest) = first == 35

-- the part that was read so far, with one line more that may be skipped
unfoldable pub builder_after : TraceBuilder → List ℕ → Option TraceBuilder
builder_after builder text = if is_skipped text then Some builder else option_and_then (builder_with builder) (line_of text)

-- THE WHOLE TEXT

abbrev pub is_line_feed : ℕ → Bool
is_line_feed byte = byte == 10

-- the parts between one LF and the next; no LF ends the last part
abbrev pub parts_of : List ℕ → List (List ℕ)
parts_of text = slice_split is_line_feed text

-- The state after the lines so far: the part that was read, or the number of the first bad line. Here with one line
-- more, of this number.
abbrev pub state_after : ℕ → Result TraceBuilder ℕ → List ℕ → Result TraceBuilder ℕ
state_after number (Ok builder) text = ok_or (builder_after builder text) number
state_after number (Err bad) text = Err bad

-- a trace is read if its profile is valid
abbrev pub judged : Trace → Option ProfileFault → Result Trace TraceFault
judged trace None = Ok trace
judged trace (Some first) = Err (fault.BadProfile (fault_number first))

-- the configuration of a device is judged before its events
abbrev pub judged_by : Config → List Entry → Result Trace TraceFault
judged_by made_of entries = judged (record { config = made_of; events = entries }) (config_fault made_of)

-- the configuration of the device whose lines were read; None if one is missing
abbrev pub config_of : TraceBuilder → Option Config
config_of (Slots scanner newer terms slots) = Some (config.Scanner (scanner_with scanner newer terms slots))
config_of (Events made_of entries last) = Some made_of
config_of builder = None

-- the trace at the end of the text; the end is a bad line if the profile is not complete
abbrev pub parsed : ℕ → TraceBuilder → Result Trace TraceFault
parsed number (Slots scanner newer terms slots) = judged_by (config.Scanner (scanner_with scanner newer terms slots)) []
parsed number (Events made_of entries last) = judged_by made_of (entries ++ option_to_list last)
parsed number builder = Err (fault.BadLine number)

-- the end of the text; a part that no LF ends is a bad line
abbrev pub ended : ℕ → Result TraceBuilder ℕ → List ℕ → Result Trace TraceFault
ended number (Err bad) rest = Err (fault.BadLine bad)
ended number (Ok builder) [] = parsed number builder
ended number (Ok builder) (byte ∷ rest) = Err (fault.BadLine number)

-- the reading of the lines from this number on, after those before
abbrev pub parsed_from : ℕ → Result TraceBuilder ℕ → List (List ℕ) → Result Trace TraceFault
parsed_from number state [] = ended number state []
parsed_from number state (last ∷ []) = ended number state last
parsed_from number state (text ∷ next ∷ parts) = parsed_from (number + 1) (state_after number state text) (next ∷ parts)

-- the reading of a text: its trace, or the number of the first bad line, or if none is bad that of the first fault of
-- the profile
unfoldable pub trace_reading : List ℕ → Result Trace TraceFault
trace_reading text = parsed_from 1 (Ok Empty) (parts_of text)

-- A function answers the reading of the text, or that an allocation was refused.
abbrev pub Answers : Result Trace TraceFault → Result Trace TraceFault → Type 0
Answers said (Err fault.OutOfMemory) = Unit {0}
Answers said result = result ≡ said

-- A function left the part that was read so far. If an allocation was refused, nothing is promised.
abbrev pub Leaves : Option TraceBuilder → Result Unit TextFault → TraceBuilder → Type 0
Leaves said (Ok done) builder = said ≡ Some builder
Leaves said (Err Bad) builder = said ≡ None
Leaves said (Err OutOfMemory) builder = Unit {0}
