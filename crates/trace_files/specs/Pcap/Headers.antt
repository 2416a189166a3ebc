-- The headers of packets. The first byte of a number is the greatest.
--
--   IPv4 (RFC 791, section 3.1)           UDP (RFC 768)            TCP (RFC 9293, section 3.1)
--   version 4, 5 words of header   1      source port       2      source port             2
--   type of service 0              1      destination port  2      destination port        2
--   length of the packet           2      length            2      sequence number         4
--   identification 0               2      checksum          2      acknowledgement number  4
--   do not fragment                2                               5 words of header       1
--   time to live                   1                               control bits            1
--   protocol                       1                               window                  2
--   header checksum                2                               checksum                2
--   source address                 4                               urgent pointer 0        2
--   destination address            4
use Rattle.std.specs.Prelude.{ℕ, ◌+◌, if◌then◌else◌, List, [], ◌∷◌, ◌++◌}
use Rattle.std.specs.Int.{w16, w32, to_be_bytes}
use Rattle.trace_files.specs.declared.pcap.ends.Ends.{Ends}
use Rattle.trace_files.specs.declared.pcap.headers.Control.{Control}
use Rattle.trace_files.specs.Pcap.Ends.{is_multicast}

-- a packet to a group of hosts stays in its network
abbrev pub time_to_live : Ends → ℕ
time_to_live ends = if is_multicast ends.destination then 1 else 64

-- the header of a packet with len bytes behind it
unfoldable pub ipv4_header : Ends → ℕ → ℕ → ℕ → List ℕ
ipv4_header ends protocol len checksum =
    0x45 ∷ 0 ∷ (to_be_bytes w16 (len + 20) ++ 0 ∷ 0 ∷ 0x40 ∷ 0 ∷ time_to_live ends ∷ protocol ∷ (to_be_bytes w16 checksum
    ++ (to_be_bytes w32 ends.source.0 ++ to_be_bytes w32 ends.destination.0)))

-- what the checksum of UDP and TCP counts beside header and data
unfoldable pub pseudo_header : Ends → ℕ → ℕ → List ℕ
pseudo_header ends protocol len =
    to_be_bytes w32 ends.source.0 ++ (to_be_bytes w32 ends.destination.0 ++ 0 ∷ protocol ∷ to_be_bytes w16 len)

unfoldable pub udp_header : Ends → ℕ → ℕ → List ℕ
udp_header ends len checksum =
    to_be_bytes w16 ends.source_port ++ (to_be_bytes w16 ends.destination_port ++ (to_be_bytes w16 len ++ to_be_bytes w16 checksum))

unfoldable pub tcp_header : Ends → Control → ℕ → List ℕ
tcp_header ends control checksum =
    to_be_bytes w16 ends.source_port ++ (to_be_bytes w16 ends.destination_port
    ++ (to_be_bytes w32 control.sequence ++ (to_be_bytes w32 control.acknowledgement
    ++ 0x50 ∷ control.bits ∷ 255 ∷ 255 ∷ (to_be_bytes w16 checksum ++ 0 ∷ 0 ∷ []))))
