-- Packets as records of a capture file: the header of the file, and of each packet its header in the file, its IPv4
-- header, the header of its protocol, and its data. The numbers of the file are little-endian.
--
--   the file                             a packet
--   magic number 0xA1B2C3D4  4           seconds                     4
--   major version 2          2           microseconds                4
--   minor version 4          2           bytes of it in the file     4
--   time zone 0              4           bytes of it on the network  4
--   accuracy 0               4
--   longest packet           4
--   link type 101, raw IP    4
use Rattle.std.specs.Prelude.{ℕ, ◌+◌, ◌*◌, ◌/◌, ◌%◌, ◌==◌, nat_lt, if◌then◌else◌, List, ◌++◌, length, take}
use Rattle.std.specs.Int.{w16, w32, to_le_bytes}
use Rattle.trace_files.specs.declared.pcap.ends.Ends.{Ends}
use Rattle.trace_files.specs.declared.pcap.headers.Control.{Control}
use Rattle.trace_files.specs.Pcap.Checksum.{word_sum, checksum_of}
use Rattle.trace_files.specs.Pcap.Headers.{ipv4_header, pseudo_header, udp_header, tcp_header}

abbrev pub file_header : List ℕ
file_header = to_le_bytes w32 0xA1B2C3D4 ++ (to_le_bytes w16 2 ++ (to_le_bytes w16 4
    ++ (to_le_bytes w32 0 ++ (to_le_bytes w32 0 ++ (to_le_bytes w32 65535 ++ to_le_bytes w32 101)))))

-- the header of a packet of len bytes, at a time in milliseconds
unfoldable pub record_header : ℕ → ℕ → List ℕ
record_header time len = to_le_bytes w32 (time / 1000 % 0x100000000) ++ (to_le_bytes w32 (time % 1000 * 1000)
    ++ (to_le_bytes w32 len ++ to_le_bytes w32 len))

-- the bytes, or the first ones if there are more than the most
abbrev pub shown : ℕ → List ℕ → List ℕ
shown most bytes = if nat_lt most (length bytes) then take most bytes else bytes

-- the checksum of the header, whose own checksum is 0 in this sum
unfoldable pub ipv4_checksum : Ends → ℕ → ℕ → ℕ
ipv4_checksum ends protocol len = checksum_of (word_sum (ipv4_header ends protocol len 0))

-- a packet with these bytes behind its IPv4 header
unfoldable pub packet_record : ℕ → Ends → ℕ → List ℕ → List ℕ → List ℕ
packet_record time ends protocol header payload =
    let len = length header + length payload in
    record_header time (len + 20) ++ (ipv4_header ends protocol len (ipv4_checksum ends protocol len) ++ (header ++ payload))

-- Each part but the data has an even number of bytes, so the words of all are the words of each.
unfoldable pub transport_checksum : Ends → ℕ → List ℕ → List ℕ → ℕ
transport_checksum ends protocol header payload =
    checksum_of (word_sum (pseudo_header ends protocol (length header + length payload)) + word_sum header + word_sum payload)

-- 0 says that there is no checksum, so 65,535 stands for it, which is zero as well in one's complement (RFC 768)
unfoldable pub udp_checksum : Ends → ℕ → List ℕ → ℕ
udp_checksum ends len payload =
    let checksum = transport_checksum ends 17 (udp_header ends len 0) payload in
    if checksum == 0 then 65535 else checksum

-- a UDP datagram
unfoldable pub udp_record : ℕ → Ends → List ℕ → List ℕ
udp_record time ends bytes =
    let payload = shown 65507 bytes in
    let len = length payload + 8 in
    packet_record time ends 17 (udp_header ends len (udp_checksum ends len payload)) payload

-- a TCP segment
unfoldable pub tcp_record : ℕ → Ends → Control → List ℕ → List ℕ
tcp_record time ends control bytes =
    let payload = shown 65495 bytes in
    packet_record time ends 6 (tcp_header ends control (transport_checksum ends 6 (tcp_header ends control 0) payload)) payload
