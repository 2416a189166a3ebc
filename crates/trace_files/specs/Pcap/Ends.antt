-- The ends of packets: the traced device and its peers.
use Rattle.std.specs.Prelude.{ℕ, ◌+◌, ◌/◌, ◌%◌, ◌==◌, if◌then◌else◌, Bool, true, false}
use Rattle.cip_types.specs.declared.names.Node.{Node}
use Rattle.cip_tables.specs.declared.table.Config.{Config}
use Rattle.cip_tables.specs.declared.table.Config.TheVariants.{Adapter, Scanner}
use Rattle.trace_files.specs.declared.pcap.ends.Side.{Side}
use Rattle.trace_files.specs.declared.pcap.ends.Ends.{Ends}
use Rattle.trace_files.specs.declared.pcap.ends.CapturedStream.{CapturedStream}
use Rattle.trace_files.specs.declared.pcap.ends.Sender.{Sender}
use Rattle.trace_files.specs.declared.pcap.ends.Sender.TheVariants.{Peer, Device}

-- an adapter's peers open its streams; a scanner opens its streams
abbrev pub side_of : Config → Side
side_of (Adapter profile) = record { node = profile.node; opens = false }
side_of (Scanner profile) = record { node = profile.node; opens = true }

-- The ends of a segment from the device: the end that opens a stream has the stream's port, and the other end the port of
-- explicit messages.
abbrev pub device_ends : Side → CapturedStream → Ends
device_ends side stream = record {
  source = side.node;
  source_port = (if side.opens then stream.port else 44818);
  destination = stream.peer;
  destination_port = (if side.opens then 44818 else stream.port);
}

-- the ends of a packet that is sent back
abbrev pub reversed : Ends → Ends
reversed ends = record {
  source = ends.destination;
  source_port = ends.destination_port;
  destination = ends.source;
  destination_port = ends.source_port;
}

-- the ends of a segment of this sender
abbrev pub ends_of : Sender → Side → CapturedStream → Ends
ends_of Device side stream = device_ends side stream
ends_of Peer side stream = reversed (device_ends side stream)

abbrev pub datagram_ends : Node → Node → Ends
datagram_ends source destination = record { source = source; source_port = 2222; destination = destination; destination_port = 2222 }

-- a dynamic port (RFC 6335, section 6), another one for each of 16,384 events in a row
unfoldable pub stream_port : ℕ → ℕ
stream_port number = 49152 + number % 16384

-- The ends of an inquiry at the event of this number, from its peer to the device: the peer has a dynamic port, and the
-- device that of encapsulation messages.
abbrev pub inquiry_ends : ℕ → Node → Node → Ends
inquiry_ends number peer device = record { source = peer; source_port = stream_port number; destination = device; destination_port = 44818 }

-- the four first bits of the address of a group of hosts are 1110 (RFC 1112, section 4)
abbrev pub is_multicast : Node → Bool
is_multicast node = node.0 / 0x10000000 == 14
