-- How a recorder writes a trace piece by piece: the profile, and then each event with its outcome. What is written is the
-- text of the trace at each moment, and the line of an event alone is that event's.
use Rattle.std.specs.Prelude.{◌≡◌, ◌+◌, List, [], ◌∷◌, ◌++◌, length, Some}
use Rattle.std.specs.List.{join_with_byte}
use Rattle.cip_events.specs.declared.event.Event.{Event}
use Rattle.cip_tables.specs.declared.table.Config.{Config}
use Rattle.trace_words.specs.Words.{line_text}
use Rattle.trace_text.specs.Forms.{event_of}
use Rattle.trace_text.specs.Reading.{Entry}
use Rattle.trace_text.specs.Written.{config_lines, event_words, recorded_text, trace_text}
use Rattle.trace_laws.specs.TraceBack.{EventFits}

-- the line of an event, without its LF, is read as that event
abbrev pub EventsReadBack : Type 0
EventsReadBack = (given : Event) → EventFits given → event_of (join_with_byte 32 (event_words given)) ≡ Some given

-- the lines of a profile are the text of a trace without events
abbrev pub TracesBegin : Type 0
TracesBegin = (made_of : Config) → trace_text (record { config = made_of; events = [] }) ≡ config_lines made_of

-- the line of one event more, and the lines of its outcome behind it, make the text of the trace with that entry
abbrev pub TracesGrow : Type 0
TracesGrow = (made_of : Config) (events : List Entry) (entry : Entry)
    → trace_text (record { config = made_of; events = events ++ entry ∷ [] })
    ≡ trace_text (record { config = made_of; events = events }) ++ (line_text (event_words entry.0) ++ recorded_text (length events + 1) entry.1)
