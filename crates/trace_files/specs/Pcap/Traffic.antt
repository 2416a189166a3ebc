-- The packets of a trace's events. A stream is shown as a TCP connection that opens as the stream does, with a running
-- sequence number for each end, that of the peer's next byte (received) and that of the device's (sent).
use Rattle.std.specs.Prelude.{ℕ, ◌+◌, ◌%◌, ◌^◌, ◌==◌, not, if◌then◌else◌, List, [], ◌∷◌, ◌++◌, length, find, filter, flat_map, Option, Some, None}
use Rattle.cip_types.specs.declared.names.Node.{Node}
use Rattle.cip_events.specs.declared.event.Event.{Event}
use Rattle.cip_events.specs.declared.event.Event.TheVariants.{StreamOpened, Frame, StreamCut, Datagram, Inquiry}
use Rattle.cip_events.specs.declared.event.Answer.{Answer}
use Rattle.cip_events.specs.declared.event.Frame as framed
use Rattle.cip_events.specs.declared.event.OutgoingDatagram.{OutgoingDatagram}
use Rattle.cip_events.specs.declared.event.Recipient.{Recipient}
use Rattle.cip_events.specs.declared.event.Recipient.TheVariants.{Stream, Peer}
use Rattle.cip_events.specs.declared.event.Notice.{Notice}
use Rattle.cip_events.specs.declared.event.Notice.TheVariants.{StreamClosed}
use Rattle.trace_files.specs.declared.pcap.ends.CapturedStream as opened
use Rattle.trace_files.specs.declared.pcap.ends.Sender.{Sender}
use Rattle.trace_files.specs.declared.pcap.ends.Sender.TheVariants as by
use Rattle.trace_files.specs.declared.pcap.ends.Side.{Side}
use Rattle.trace_files.specs.declared.pcap.headers.Control.{Control}
use Rattle.trace_files.specs.declared.pcap.traffic.EventContext.{EventContext}
use Rattle.trace_files.specs.Pcap.Ends.{ends_of, reversed, datagram_ends, inquiry_ends, is_multicast, stream_port}
use Rattle.trace_files.specs.Pcap.Packets.{shown, tcp_record, udp_record}

-- STREAMS

abbrev pub Streams : Type 0
Streams = List opened.CapturedStream

-- the open stream of a number
abbrev pub stream_of : ℕ → Streams → Option opened.CapturedStream
stream_of number streams = find (λ stream. stream.number == number) streams

abbrev pub without : ℕ → Streams → Streams
without number streams = filter (λ stream. not (stream.number == number)) streams

-- the stream in place of the one with its number
abbrev pub replaced_stream : opened.CapturedStream → Streams → Streams
replaced_stream stream streams = without stream.number streams ++ stream ∷ []

-- SEGMENTS

-- the numbers of a segment: the next one of its sender, and the next one of the other end
abbrev pub control_of : Sender → opened.CapturedStream → ℕ → Control
control_of by.Peer stream bits = record { sequence = stream.received; acknowledgement = stream.sent; bits = bits }
control_of by.Device stream bits = record { sequence = stream.sent; acknowledgement = stream.received; bits = bits }

-- a segment of a stream
unfoldable pub segment_record : EventContext → Sender → opened.CapturedStream → ℕ → List ℕ → List ℕ
segment_record context sender stream bits bytes =
    tcp_record context.time (ends_of sender context.side stream) (control_of sender stream bits) bytes

-- the stream after its sender took this many more numbers
abbrev pub sent_more : Sender → ℕ → opened.CapturedStream → opened.CapturedStream
sent_more by.Peer count stream = record stream { received = (stream.received + count) % 2 ^ 32 }
sent_more by.Device count stream = record stream { sent = (stream.sent + count) % 2 ^ 32 }

-- OPENING

-- the end that opens a stream, and the other one
abbrev pub opener : Side → Sender
opener side = if side.opens then by.Device else by.Peer

abbrev pub other_end : Sender → Sender
other_end by.Peer = by.Device
other_end by.Device = by.Peer

-- The end that opens sends SYN, the other one SYN and ACK, the first one ACK (RFC 9293, section 3.5). The numbers of
-- both ends begin at 0, which SYN takes.
abbrev pub start_of : EventContext → ℕ → Node → opened.CapturedStream
start_of context number peer = record { number = number; peer = peer; port = stream_port context.number; received = 0; sent = 0 }

abbrev pub opened_by : Sender → opened.CapturedStream → opened.CapturedStream
opened_by first start = sent_more (other_end first) 1 (sent_more first 1 start)

unfoldable pub opening_records : EventContext → Sender → opened.CapturedStream → List ℕ
opening_records context first start =
    segment_record context first start 2 []
    ++ (segment_record context (other_end first) (sent_more first 1 start) 18 []
    ++ segment_record context first (opened_by first start) 16 [])

-- DATA: control bits PSH and ACK

abbrev pub data_records : EventContext → Sender → List ℕ → Option opened.CapturedStream → List ℕ
data_records context sender bytes None = []
data_records context sender bytes (Some stream) = segment_record context sender stream 24 bytes

abbrev pub data_streams : Sender → List ℕ → Option opened.CapturedStream → Streams → Streams
data_streams sender bytes None streams = streams
data_streams sender bytes (Some stream) streams = replaced_stream (sent_more sender (length (shown 65495 bytes)) stream) streams

-- THE END OF A STREAM

-- a stream that breaks, or that its peer closes: RST and ACK of the peer; one that the device closes: its FIN and ACK
abbrev pub last_bits : Sender → ℕ
last_bits by.Peer = 20
last_bits by.Device = 17

abbrev pub end_records : EventContext → Sender → Option opened.CapturedStream → List ℕ
end_records context sender None = []
end_records context sender (Some stream) = segment_record context sender stream (last_bits sender) []

-- WHAT ARRIVES

abbrev pub event_records : EventContext → Event → Streams → List ℕ
event_records context (StreamOpened stream peer) streams = opening_records context (opener context.side) (start_of context stream peer)
event_records context (Frame stream bytes) streams = data_records context by.Peer bytes (stream_of stream streams)
event_records context (StreamCut stream) streams = end_records context by.Peer (stream_of stream streams)
event_records context (Datagram peer bytes) streams = udp_record context.time (datagram_ends peer context.side.node) bytes
event_records context (Inquiry peer bytes) streams = udp_record context.time (inquiry_ends context.number peer context.side.node) bytes
event_records context _ streams = []

abbrev pub event_streams : EventContext → Event → Streams → Streams
event_streams context (StreamOpened stream peer) streams = replaced_stream (opened_by (opener context.side) (start_of context stream peer)) streams
event_streams context (Frame stream bytes) streams = data_streams by.Peer bytes (stream_of stream streams) streams
event_streams context (StreamCut stream) streams = without stream streams
event_streams context _ streams = streams

-- WHAT IS ANSWERED

abbrev pub recipient_records : EventContext → Recipient → List ℕ → Streams → List ℕ
recipient_records context (Stream number) bytes streams = data_records context by.Device bytes (stream_of number streams)
recipient_records context (Peer node) bytes streams = []

abbrev pub recipient_streams : Recipient → List ℕ → Streams → Streams
recipient_streams (Stream number) bytes streams = data_streams by.Device bytes (stream_of number streams) streams
recipient_streams (Peer node) bytes streams = streams

-- a frame over a stream; a reply to a request without a stream is no packet
abbrev pub frame_records : EventContext → framed.Frame → Streams → List ℕ
frame_records context frame streams = recipient_records context frame.to frame.bytes streams

abbrev pub frame_streams : framed.Frame → Streams → Streams
frame_streams frame streams = recipient_streams frame.to frame.bytes streams

abbrev pub frames_records : EventContext → List framed.Frame → Streams → List ℕ
frames_records context [] streams = []
frames_records context (frame ∷ frames) streams = frame_records context frame streams ++ frames_records context frames (frame_streams frame streams)

abbrev pub frames_streams : List framed.Frame → Streams → Streams
frames_streams [] streams = streams
frames_streams (frame ∷ frames) streams = frames_streams frames (frame_streams frame streams)

-- a reply to an inquiry goes to the port that the inquiry came from
abbrev pub inquirer_records : EventContext → List ℕ → Recipient → List ℕ
inquirer_records context bytes (Peer node) = udp_record context.time (reversed (inquiry_ends context.number node context.side.node)) bytes
inquirer_records context bytes (Stream number) = []

abbrev pub inquired_records : EventContext → framed.Frame → List ℕ
inquired_records context frame = inquirer_records context frame.bytes frame.to

-- the replies to an event that is an inquiry
abbrev pub replies_records : EventContext → Event → List framed.Frame → List ℕ
replies_records context (Inquiry peer bytes) frames = flat_map (inquired_records context) frames
replies_records context _ frames = []

abbrev pub copies_records : EventContext → List ℕ → List Node → List ℕ
copies_records context bytes nodes = flat_map (λ node. udp_record context.time (datagram_ends context.side.node node) bytes) nodes

-- a datagram to a group of hosts once, another one to each of its nodes
abbrev pub outgoing_records : EventContext → OutgoingDatagram → List ℕ
outgoing_records context outgoing =
    if is_multicast outgoing.address
    then udp_record context.time (datagram_ends context.side.node outgoing.address) outgoing.bytes
    else copies_records context outgoing.bytes outgoing.nodes

abbrev pub datagrams_records : EventContext → List OutgoingDatagram → List ℕ
datagrams_records context datagrams = flat_map (outgoing_records context) datagrams

abbrev pub notice_records : EventContext → Notice → Streams → List ℕ
notice_records context (StreamClosed number) streams = end_records context by.Device (stream_of number streams)
notice_records context _ streams = []

abbrev pub notice_streams : Notice → Streams → Streams
notice_streams (StreamClosed number) streams = without number streams
notice_streams _ streams = streams

abbrev pub notices_records : EventContext → List Notice → Streams → List ℕ
notices_records context [] streams = []
notices_records context (notice ∷ notices) streams = notice_records context notice streams ++ notices_records context notices (notice_streams notice streams)

abbrev pub notices_streams : List Notice → Streams → Streams
notices_streams [] streams = streams
notices_streams (notice ∷ notices) streams = notices_streams notices (notice_streams notice streams)

abbrev pub answer_records : EventContext → Answer → Streams → List ℕ
answer_records context answer streams =
    frames_records context answer.frames streams
    ++ (datagrams_records context answer.datagrams ++ notices_records context answer.notices (frames_streams answer.frames streams))

abbrev pub answer_streams : Answer → Streams → Streams
answer_streams answer streams = notices_streams answer.notices (frames_streams answer.frames streams)
