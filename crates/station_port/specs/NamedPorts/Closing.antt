-- The connection that a request asks to close (Volume 1, chapter 3, Forward_Close service).
use Rattle.std.specs.Prelude.{ℕ, ◌==◌, if◌then◌else◌, List, Option, Some, None, Result, Ok, Err}
use Rattle.cip_types.specs.declared.names.Triad.{Triad}
use Rattle.cip_encap.specs.declared.packet.ItemFault.{ItemFault}
use Rattle.cip_encap.specs.declared.message.EncapFault.{EncapFault}
use Rattle.cip_encap.specs.Message.{MessageFields}
use Rattle.cip_encap.specs.Reading.{message_reading}
use Rattle.cip_encap.specs.Packet.{PacketFields}
use Rattle.cip_encap.specs.PacketReading.{packet_reading}
use Rattle.cip_router.specs.Requests.{RouterRequestFields, closing, router_request_reading}

abbrev pub closes : RouterRequestFields → Option Triad
closes (closing request) = Some request.triad
closes other = None

-- the triad that a request asks to close
abbrev pub closed_in : List ℕ → Option Triad
closed_in request = closes (router_request_reading request)

abbrev pub read_closed_triad : Result PacketFields ItemFault → Option Triad
read_closed_triad (Err fault) = None
read_closed_triad (Ok packet) = closed_in packet.payload

abbrev pub packet_closed_triad : List ℕ → Option Triad
packet_closed_triad items = read_closed_triad (packet_reading items)

abbrev pub message_closed_triad : Result MessageFields EncapFault → Option Triad
message_closed_triad (Err fault) = None
message_closed_triad (Ok message) = if message.command == 0x6F then packet_closed_triad message.payload else None

-- the triad that a message of a stream asks to close, if it does
abbrev pub closed_triad : List ℕ → Option Triad
closed_triad message = message_closed_triad (message_reading message)
