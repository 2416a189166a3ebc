-- A written value is read back: laws of the definitions alone, which `reads_back` promises
-- (Volume 2, chapter 2, encapsulation messages and common packet format).
use Rattle.std.specs.Prelude.{◌≡◌, ℕ, ◌≤◌, ◌<◌, ◌^◌, List, length, Option, Ok}
use Rattle.cip_encap.specs.declared.packet.SocketAddress.{SocketAddress}
use Rattle.cip_encap.specs.Message.{MessageFields, MessageFits, message_text}
use Rattle.cip_encap.specs.Reading.{message_reading}
use Rattle.cip_encap.specs.Packet.{packet_text}
use Rattle.cip_encap.specs.PacketReading.{packet_reading}
use Rattle.cip_encap.specs.Connected.{connected_text}
use Rattle.cip_encap.specs.ConnectedReading.{connected_reading}

-- a message
abbrev pub MessageReadsBack : Type 0
MessageReadsBack = (m : MessageFields) → MessageFits m → message_reading (message_text m) ≡ Ok m

-- the data among its items, whether a socket address stands behind it or not
abbrev pub ItemsReadBack : Type 0
ItemsReadBack =
    (payload : List ℕ) (socket : Option SocketAddress) → 1 ≤ length payload → length payload ≤ 65535
    → packet_reading (packet_text payload socket) ≡ Ok (record { timeout = 0; payload = payload })

-- a connected message among its items, with its connection id and its sequence count
abbrev pub ConnectedReadsBack : Type 0
ConnectedReadsBack =
    (connection count : ℕ) (message : List ℕ) → connection < 2 ^ 32 → count < 2 ^ 16 → length message ≤ 65533
    → connected_reading (connected_text connection count message) ≡ Ok (record { connection = connection; count = count; message = message })
