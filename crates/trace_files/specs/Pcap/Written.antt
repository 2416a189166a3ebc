-- A trace as a capture file: its header, and behind it the packets of each event, a piece for each. A piece is what the event,
-- its recorded outcome and little more say: the traced device, the time, the number of the event, and the open streams.
use Rattle.std.specs.Prelude.{ℕ, ◌+◌, ◌%◌, ◌^◌, List, [], ◌∷◌, ◌++◌, Option, Some, None, Ok, Err}
use Rattle.cip_events.specs.declared.event.Event.{Event}
use Rattle.cip_events.specs.Outcomes.{Outcome}
use Rattle.trace_text.specs.declared.trace.Trace.{Trace}
use Rattle.trace_text.specs.Clock.{time_after}
use Rattle.trace_text.specs.Reading.{Entry}
use Rattle.cip_tables.specs.declared.table.Config.{Config}
use Rattle.trace_files.specs.declared.pcap.capture.Capture.{Capture}
use Rattle.trace_files.specs.declared.pcap.ends.Side.{Side}
use Rattle.trace_files.specs.declared.pcap.traffic.EventContext.{EventContext}
use Rattle.trace_files.specs.Pcap.Ends.{side_of}
use Rattle.trace_files.specs.Pcap.Packets.{file_header}
use Rattle.trace_files.specs.Pcap.Traffic.{Streams, event_records, event_streams, replies_records, answer_records, answer_streams}

-- what arrives, and what is answered if that is recorded; nothing if the device refused the event
abbrev pub entry_records : EventContext → Event → Option Outcome → Streams → List ℕ
entry_records context event None streams = event_records context event streams
entry_records context event (Some (Ok answer)) streams =
    event_records context event streams
    ++ (replies_records context event answer.frames ++ answer_records context answer (event_streams context event streams))
entry_records context event (Some (Err fault)) streams = []

abbrev pub entry_streams : EventContext → Event → Option Outcome → Streams → Streams
entry_streams context event None streams = event_streams context event streams
entry_streams context event (Some (Ok answer)) streams = answer_streams answer (event_streams context event streams)
entry_streams context event (Some (Err fault)) streams = streams

-- PIECES

-- What a capture file knows between two events: the traced device, the time, the number of the next event, and the open streams.
pub record Captured : Type 0 where
  pub side : Side
  pub time : ℕ
  pub number : ℕ
  pub streams : Streams

abbrev pub view_capture : Capture → Captured
view_capture capture = record { side = capture.side; time = capture.time; number = capture.number; streams = capture.streams.items }

-- before the first event of a trace that begins at this time, in milliseconds since 1970
abbrev pub begun : ℕ → Config → Captured
begun start config = record { side = side_of config; time = start; number = 0; streams = [] }

-- events are counted modulo 2^64
abbrev pub number_after : ℕ → ℕ
number_after number = (number + 1) % 2 ^ 64

-- where and when the next event happens
abbrev pub context_of : Captured → Entry → EventContext
context_of captured entry = record { side = captured.side; time = time_after captured.time entry.0 entry.1; number = captured.number }

-- the packets of the next event
abbrev pub piece_of : Captured → Entry → List ℕ
piece_of captured entry = entry_records (context_of captured entry) entry.0 entry.1 captured.streams

-- what is known behind it
abbrev pub captured_with : Captured → Entry → Captured
captured_with captured entry = record {
  side = captured.side;
  time = time_after captured.time entry.0 entry.1;
  number = number_after captured.number;
  streams = entry_streams (context_of captured entry) entry.0 entry.1 captured.streams;
}

-- the packets of events, a piece for each
abbrev pub pieces_of : Captured → List Entry → List ℕ
pieces_of captured [] = []
pieces_of captured (entry ∷ entries) = piece_of captured entry ++ pieces_of (captured_with captured entry) entries

-- what is known behind events
abbrev pub captured_after : Captured → List Entry → Captured
captured_after captured [] = captured
captured_after captured (entry ∷ entries) = captured_after (captured_with captured entry) entries

-- the file of a trace that begins at this time, in milliseconds since 1970
unfoldable pub pcap_text : ℕ → Trace → List ℕ
pcap_text start trace = file_header ++ pieces_of (begun start trace.config) trace.events
