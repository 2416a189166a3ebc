-- How a trace is written: the lines of its profile, and the line of each event with its recorded outcome. One space
-- separates the words of a line, and LF ends it.
use Rattle.std.specs.Prelude.{ℕ, ◌+◌, List, [], ◌∷◌, ◌++◌, codes, Option, Some, None}
use Rattle.cip_tables.specs.declared.table.Config.{Config}
use Rattle.cip_tables.specs.declared.table.Config.TheVariants.{Adapter, Scanner}
use Rattle.cip_events.specs.declared.event.Event.{Event}
use Rattle.cip_events.specs.declared.event.Event.TheVariants.{Request, StreamOpened, Frame, StreamCut, Datagram, Inquiry, Write, Read, Tick, Mode, Start, Stop, Explicit, Respond, Counters, Ids}
use Rattle.cip_events.specs.Outcomes.{Outcome}
use Rattle.trace_text.specs.declared.trace.Trace.{Trace}
use Rattle.trace_words.specs.Words.{line_text}
use Rattle.trace_lines.specs.declared.shapes.TheConstants.{FROM_NODE, EXPLICIT, ANSWER, COUNTERS, STREAM, FRAME, CUT, WRITE, NUMBER, MODE}
use Rattle.trace_lines.specs.Shapes.{spelled}
use Rattle.trace_text.specs.Reading.{Entry}
use Rattle.trace_outcomes.specs.WrittenOutcomes.{outcome_text}
use Rattle.trace_lines.specs.WrittenProfiles.{ids_words, profile_text}
use Rattle.trace_lines.specs.Slots.{scanner_text}

-- EVENTS

abbrev pub event_words : Event → List (List ℕ)
event_words (Request peer bytes) = spelled (codes "request" ∷ []) FROM_NODE peer bytes
event_words (StreamOpened stream peer) = spelled (codes "stream" ∷ []) STREAM stream peer
event_words (Frame stream bytes) = spelled (codes "frame" ∷ []) FRAME stream bytes
event_words (StreamCut stream) = spelled (codes "cut" ∷ []) CUT stream
event_words (Datagram peer bytes) = spelled (codes "datagram" ∷ []) FROM_NODE peer bytes
event_words (Inquiry peer bytes) = spelled (codes "inquiry" ∷ []) FROM_NODE peer bytes
event_words (Write point bytes) = spelled (codes "write" ∷ []) WRITE point bytes
event_words (Read point) = spelled (codes "read" ∷ []) NUMBER point
event_words (Tick ms) = spelled (codes "tick" ∷ []) NUMBER ms
event_words (Mode run) = spelled (codes "mode" ∷ []) MODE run
event_words (Start slot) = spelled (codes "start" ∷ []) NUMBER slot
event_words (Stop slot) = spelled (codes "stop" ∷ []) NUMBER slot
event_words (Explicit target number bytes) = spelled (codes "explicit" ∷ []) EXPLICIT target number bytes
event_words (Respond number status bytes) = spelled (codes "answer" ∷ []) ANSWER number status bytes
event_words (Counters bytes) = spelled (codes "counters" ∷ []) COUNTERS bytes
event_words (Ids block) = ids_words block

abbrev pub recorded_text : ℕ → Option Outcome → List ℕ
recorded_text number None = []
recorded_text number (Some outcome) = outcome_text number outcome

-- events with their recorded outcomes, the first event of this number
abbrev pub entries_text : ℕ → List Entry → List ℕ
entries_text number [] = []
entries_text number (entry ∷ entries) = line_text (event_words entry.0) ++ (recorded_text number entry.1 ++ entries_text (number + 1) entries)

-- THE TRACE

-- the configuration of a device
abbrev pub config_lines : Config → List ℕ
config_lines (Adapter profile) = profile_text profile
config_lines (Scanner profile) = scanner_text profile

unfoldable pub trace_text : Trace → List ℕ
trace_text trace = config_lines trace.config ++ entries_text 1 trace.events
