-- What the laws of the devices on a segment say, as tests of one chronicle: what was sent, addresses, streams and their marks.
use Rattle.std.specs.Prelude.{ℕ, ◌==◌, ◌&&◌, ◌||◌, ◌++◌, not, Bool, true, false, List, [], ◌∷◌, map, slice_get, Option, Some, None, Ok, Err}
use Rattle.std.specs.List.{list_all, list_any}
use Rattle.std.specs.Str.{bytes_eq}
use Rattle.cip_types.specs.declared.names.Node.{Node}
use Rattle.cip_datagram.specs.Datagram.{datagram_text}
use Rattle.cip_events.specs.declared.event.Frame.{Frame}
use Rattle.cip_events.specs.declared.event.Recipient.{Recipient}
use Rattle.cip_events.specs.declared.event.Recipient.TheVariants as recipient
use Rattle.adapter_table.specs.declared.table.Stream.{Stream}
use Rattle.scanner_table.specs.declared.table.TargetStream.{TargetStream}
use Rattle.cip_tables.specs.declared.table.DeviceTable.{DeviceTable}
use Rattle.cip_tables.specs.declared.table.DeviceTable.TheVariants.{Adapter, Scanner}
use Rattle.cip_tables.specs.Step.{node_of}
use Rattle.segment_world.specs.Transit.Log.{Sent}
use Rattle.segment_world.specs.declared.act.Act.{Act}
use Rattle.segment_world.specs.World.{Happened, ReportedEvent, World, happens, node_at}
use Rattle.device_laws.specs.Productions.{Production}
use Rattle.device_laws.specs.OwnStreams.{has_stream}
use Rattle.schedule_laws.specs.Chronicle.{Chronicle}
use Rattle.schedule_laws.specs.Marks.{is_mark}
use Rattle.schedule_laws.specs.Streams.{Ends, ends_of}
use Rattle.samples.specs.NameTests.{device_of}

-- ---- what was sent

abbrev pub is_sent : World → Production → Sent → Bool
is_sent w p s = s.from.0 == (node_at w p.producer.device).0 && bytes_eq s.bytes (datagram_text p.made.datagram)

abbrev pub are_sent : World → List Production → List Sent → Bool
are_sent w [] [] = true
are_sent w [] (s ∷ sent) = false
are_sent w (p ∷ produced) [] = false
are_sent w (p ∷ produced) (s ∷ sent) = is_sent w p s && are_sent w produced sent

-- each datagram that was sent is the text of one production, in its producer's name
abbrev pub texts_are_sent : Chronicle → Bool
texts_are_sent c = are_sent c.story.world c.produced c.story.world.sent

-- ---- addresses

abbrev pub has_node : Chronicle → ℕ → Option DeviceTable → Bool
has_node c device None = true
has_node c device (Some t) = (node_at c.story.world device).0 == (node_of t).0

-- the device at this place has the address of its profile
abbrev pub keeps_node : ℕ → Chronicle → Bool
keeps_node device c = has_node c device (device_of c device)

abbrev pub differ : ℕ → ℕ → Option DeviceTable → Option DeviceTable → Bool
differ a b (Some t) (Some u) = not ((node_of t).0 == (node_of u).0) || a == b
differ a b t u = true

-- the devices at these places do not have one address
abbrev pub nodes_differ : ℕ → ℕ → Chronicle → Bool
nodes_differ a b c = differ a b (device_of c a) (device_of c b)

-- ---- streams

abbrev pub joins : World → ℕ → Node → Option Ends → Bool
joins w device peer None = false
joins w device peer (Some e) =
    not (e.from == e.to) && ((e.from == device && peer.0 == (node_at w e.to).0) || (e.to == device && peer.0 == (node_at w e.from).0))

-- the stream of this number stands in the world, between the device and the one at the peer's address
abbrev pub is_open_to : World → ℕ → ℕ → Node → Bool
is_open_to w device number peer = joins w device peer (slice_get (map ends_of w.streams) number)

abbrev pub adapters_stream_stands : World → ℕ → Stream → Bool
adapters_stream_stands w device s = is_open_to w device s.number s.peer

abbrev pub scanners_stream_stands : World → ℕ → TargetStream → Bool
scanners_stream_stands w device s = is_open_to w device s.number s.peer

abbrev pub table_stands : World → ℕ → Option DeviceTable → Bool
table_stands w device None = true
table_stands w device (Some (Adapter t)) = list_all (adapters_stream_stands w device) t.streams
table_stands w device (Some (Scanner t)) = list_all (scanners_stream_stands w device) t.streams

-- so it is of each open stream of the device at this place
abbrev pub streams_stand : ℕ → Chronicle → Bool
streams_stand device c = table_stands c.story.world device (device_of c device)

-- ---- marks

abbrev pub was_marked : List ReportedEvent → ℕ → ℕ → Bool
was_marked events device number = list_any (is_mark device number) events

abbrev pub table_marked : Chronicle → ℕ → ℕ → Option DeviceTable → Bool
table_marked c device number None = true
table_marked c device number (Some t) = not (has_stream t number) || was_marked c.story.reported device number

-- if the stream of this number is open in the device's table, the device received its mark
abbrev pub stream_marked : ℕ → ℕ → Chronicle → Bool
stream_marked device number c = table_marked c device number (device_of c device)

abbrev pub goes_marked : List ReportedEvent → ℕ → Recipient → Bool
goes_marked events device (recipient.Stream number) = was_marked events device number
goes_marked events device (recipient.Peer peer) = true

abbrev pub frame_marked : List ReportedEvent → ℕ → Frame → Bool
frame_marked events device frame = goes_marked events device frame.to

abbrev pub happening_marked : List ReportedEvent → Happened → Bool
happening_marked events (Err fault) = true
happening_marked events (Ok (None, new)) = true
happening_marked events (Ok (Some reported, new)) = list_all (frame_marked (events ++ reported ∷ []) reported.device) reported.answer.frames

-- what this act makes a device send over a stream follows the mark
abbrev pub act_marked : Act → Chronicle → Bool
act_marked act c = happening_marked c.story.reported (happens c.story.world act)
