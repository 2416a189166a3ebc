-- One number for both ends of a stream. A station numbers its streams by itself, and uses a number again. In a network each
-- stream has one number, which is never used again. An adapter's session handle is the number of its stream plus one, so
-- the handle changes with it (Volume 2, chapter 2, encapsulation messages, session handle).
use Rattle.std.specs.Prelude.{ℕ, ◌+◌, ◌==◌, nat_lt, if◌then◌else◌, List, [], ◌∷◌, ◌++◌, drop, length, map, take, Option, Some, None}
use Rattle.std.specs.Int.{w32, to_le_bytes}
use Rattle.cip_types.specs.Parts.{number_in}
use Rattle.cip_events.specs.declared.event.Answer.{Answer}
use Rattle.cip_events.specs.declared.event.Event.{Event}
use Rattle.cip_events.specs.declared.event.Event.TheVariants.{StreamOpened, Frame, StreamCut}
use Rattle.cip_events.specs.declared.event.Frame.{Frame as SentFrame}
use Rattle.cip_events.specs.declared.event.Notice.{Notice}
use Rattle.cip_events.specs.declared.event.Notice.TheVariants.{StreamClosed}
use Rattle.cip_events.specs.declared.event.Recipient.{Recipient}
use Rattle.cip_events.specs.declared.event.Recipient.TheVariants.{Stream, Peer}
use Rattle.record_settling.specs.declared.stream_names.renaming.StreamName.{StreamName}

-- THE STREAM OF A NUMBER

-- the stream of this number that began last, or this one where none did
abbrev pub last_name : List StreamName → ℕ → Option StreamName → Option StreamName
last_name [] stream last = last
last_name (name ∷ names) stream last = last_name names stream (if name.own == stream then Some name else last)

abbrev pub name_in : List StreamName → ℕ → Option StreamName
name_in names stream = last_name names stream None

abbrev pub number_or : ℕ → Option StreamName → ℕ
number_or stream None = stream
number_or stream (Some name) = name.number

-- its number in the network
abbrev pub named_stream : List StreamName → ℕ → ℕ
named_stream names stream = number_or stream (name_in names stream)

-- MESSAGES

-- the handle of the adapter's number is that of the network's, and the other way round
abbrev pub named_handle : StreamName → ℕ → ℕ
named_handle name handle = if handle == name.target + 1 then name.number + 1 else if handle == name.number + 1 then name.target + 1 else handle

-- a message with that handle, which bytes 4 to 7 have
abbrev pub named_bytes : StreamName → List ℕ → List ℕ
named_bytes name bytes = if nat_lt (length bytes) 8 then bytes else take 4 bytes ++ (to_le_bytes w32 (named_handle name (number_in w32 bytes 4)) ++ drop 8 bytes)

abbrev pub bytes_or : Option StreamName → List ℕ → List ℕ
bytes_or None bytes = bytes
bytes_or (Some name) bytes = named_bytes name bytes

abbrev pub named_frame : List StreamName → ℕ → List ℕ → List ℕ
named_frame names stream bytes = bytes_or (name_in names stream) bytes

-- EVENTS AND ANSWERS

abbrev pub named_event : List StreamName → Event → Event
named_event names (StreamOpened stream peer) = StreamOpened (named_stream names stream) peer
named_event names (Frame stream bytes) = Frame (named_stream names stream) (named_frame names stream bytes)
named_event names (StreamCut stream) = StreamCut (named_stream names stream)
named_event names other = other

abbrev pub named_recipient : List StreamName → Recipient → Recipient
named_recipient names (Stream stream) = Stream (named_stream names stream)
named_recipient names (Peer peer) = Peer peer

abbrev pub named_bytes_to : List StreamName → Recipient → List ℕ → List ℕ
named_bytes_to names (Stream stream) bytes = named_frame names stream bytes
named_bytes_to names (Peer peer) bytes = bytes

abbrev pub named_sent : List StreamName → SentFrame → SentFrame
named_sent names frame = record { to = named_recipient names frame.to; bytes = named_bytes_to names frame.to frame.bytes }

abbrev pub named_notice : List StreamName → Notice → Notice
named_notice names (StreamClosed stream) = StreamClosed (named_stream names stream)
named_notice names other = other

abbrev pub named_answer : List StreamName → Answer → Answer
named_answer names answer = record { frames = map (named_sent names) answer.frames; datagrams = answer.datagrams; verdict = answer.verdict; notices = map (named_notice names) answer.notices }
