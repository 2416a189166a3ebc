-- The datagrams that a test sends (Volume 2, chapter 2, common packet format).
use Rattle.std.specs.Prelude.{ℕ, Bool, List, [], ◌++◌, Option, Some, None}
use Rattle.std.specs.Int.{w32, to_le_bytes}
use Rattle.cip_datagram.specs.Datagram.{DatagramFields}
use Rattle.cip_datagram.specs.Header.{mode_header}
use Rattle.test_requests.specs.declared.sending.SentData.{SentData}

-- the run/idle header of a mode, if there is one
abbrev pub header_bytes : Option Bool → List ℕ
header_bytes None = []
header_bytes (Some run) = to_le_bytes w32 (mode_header run)

-- the contents of the datagram
abbrev pub sent_datagram : SentData → DatagramFields
sent_datagram s = record { connection = s.connection.0; sequence = s.sequence; count = s.count; payload = header_bytes s.run ++ s.«data».now }
