-- The calls of an application, and the events whose outcomes are printed.
use Rattle.std.specs.Prelude.{ℕ, ◌||◌, ◌==◌, not, length, if◌then◌else◌, bytes_eq, codes, Bool, true, false, List, slice_index_or, option_and_then, Option, Some, None, Ok, Err}
use Rattle.cip_events.specs.declared.event.Event.{Event}
use Rattle.cip_events.specs.declared.event.Event.TheVariants as event
use Rattle.cip_events.specs.declared.event.StepFault.TheVariants as fault
use Rattle.cip_events.specs.declared.event.Verdict.{Verdict}
use Rattle.cip_events.specs.declared.event.Verdict.TheVariants as verdict
use Rattle.cip_events.specs.Outcomes.{Outcome}
use Rattle.station_lines.specs.Attributes.Calls.{attribute_call_of}
use Rattle.station_lines.specs.declared.attributes.calls.AttributeCall.{AttributeCall}
use Rattle.trace_text.specs.Forms.{event_of, is_ascii}
use Rattle.station_lines.specs.declared.calls.InputLine.{InputLine}
use Rattle.station_lines.specs.declared.calls.InputLine.TheVariants as input

-- whether an event is a call of the application
abbrev pub is_call : Event → Bool
is_call (event.Write point bytes) = true
is_call (event.Read point) = true
is_call (event.Mode run) = true
is_call (event.Start slot) = true
is_call (event.Stop slot) = true
is_call (event.Explicit target number bytes) = true
is_call (event.Respond number status bytes) = true
is_call other = false

-- the call that a line writes
abbrev pub call_of : List ℕ → Option Event
call_of line = option_and_then (λ given. if is_call given then Some given else None) (event_of line)

-- a target's reply to an explicit request
abbrev pub is_reply : Verdict → Bool
is_reply (verdict.Replied number status additional content) = true
is_reply other = false

-- whether the outcome of an event is printed
abbrev pub has_news : Event → Outcome → Bool
has_news given (Ok answer) = is_call given || (is_reply answer.verdict || not (length answer.notices == 0))
has_news given (Err fault.OutOfMemory) = false
has_news given (Err other) = is_call given

-- the line is empty, or a comment, which begins with #
abbrev pub is_skipped : List ℕ → Bool
is_skipped line = slice_index_or line 0 35 == 35

-- the line is the word that asks for the state of the station
abbrev pub is_status : List ℕ → Bool
is_status line = bytes_eq line (codes "status")

-- the line is the words that ask for what was counted of its connections
abbrev pub is_numbers : List ℕ → Bool
is_numbers line = bytes_eq line (codes "status --csv")

-- the call that a line of ASCII writes, if it concerns an attribute of a target
abbrev pub attribute_in : List ℕ → Option AttributeCall
attribute_in line = if is_ascii line then attribute_call_of line else None

-- a line that concerns an attribute of a target, or else none
abbrev pub attribute_with : Option AttributeCall → InputLine
attribute_with (Some requested) = input.Attribute requested
attribute_with None = input.NoCall

-- what a line of the input is
abbrev pub line_with : Option Event → Option AttributeCall → InputLine
line_with (Some given) requested = input.Call given
line_with None requested = attribute_with requested

abbrev pub line_of : List ℕ → InputLine
line_of text = if is_skipped text then input.Skipped else (if is_status text then input.Status else (if is_numbers text then input.Numbers else line_with (call_of text) (attribute_in text)))
