-- Samples of the definitions: bytes from outside this code.
use Rattle.std.proofs.Common.{◌≡◌, ◌+◌, ◌-◌, [], ◌∷◌, refl}
use Rattle.std.specs.Prelude.{codes}
use Rattle.trace_files.specs.declared.pcap.ends.Ends.{Ends}
use Rattle.trace_files.specs.declared.pcap.headers.Control.{Control}
use Rattle.trace_files.specs.Pcap.Checksum.{word_sum, checksum_of}
use Rattle.trace_files.specs.Pcap.Ends.{datagram_ends}
use Rattle.trace_files.specs.Pcap.Headers.{ipv4_header, udp_header, tcp_header, pseudo_header}
use Rattle.trace_files.specs.Pcap.Packets.{ipv4_checksum, udp_checksum, transport_checksum, record_header, packet_record, tcp_record}

-- the words of RFC 1071, section 3: their one's complement sum is DDF2
rfc_1071 : checksum_of (word_sum (0x00 ∷ 0x01 ∷ 0xF2 ∷ 0x03 ∷ 0xF4 ∷ 0xF5 ∷ 0xF6 ∷ 0xF7 ∷ [])) ≡ 0xFFFF - 0xDDF2
unfolding checksum_of
rfc_1071 = refl

-- a last odd byte is the greater one of its word
odd_byte : word_sum (0x12 ∷ 0x34 ∷ 0x56 ∷ []) ≡ 0x1234 + 0x5600
odd_byte = refl

-- no words: the checksum is that of zeros
zeros : checksum_of (word_sum (0 ∷ 0 ∷ [])) ≡ 0xFFFF
unfolding checksum_of
zeros = refl

-- from 192.168.0.1 to 192.168.0.199
abbrev home : Ends
home = datagram_ends (record { 0 = 0xC0A80001 }) (record { 0 = 0xC0A800C7 })

-- a header of the textbooks: 95 bytes of UDP, checksum B861
known_header : ipv4_header home 17 95 (ipv4_checksum home 17 95) ≡ 0x45 ∷ 0x00 ∷ 0x00 ∷ 0x73 ∷ 0x00 ∷ 0x00 ∷ 0x40 ∷ 0x00 ∷ 0x40 ∷ 0x11 ∷ 0xB8 ∷ 0x61 ∷ 0xC0 ∷ 0xA8 ∷ 0x00 ∷ 0x01 ∷ 0xC0 ∷ 0xA8 ∷ 0x00 ∷ 0xC7 ∷ []
unfolding ipv4_header ipv4_checksum checksum_of
known_header = refl

-- from 192.168.1.20 to 192.168.1.10
abbrev plant : Ends
plant = datagram_ends (record { 0 = 0xC0A80114 }) (record { 0 = 0xC0A8010A })

-- three bytes of data; the checksum by another program
known_datagram : udp_checksum plant 11 (codes "hi!") ≡ 0xE1A3
unfolding udp_checksum transport_checksum pseudo_header udp_header checksum_of
known_datagram = refl

-- two bytes for which the sum is FFFF: no checksum of 0 is sent
no_zero : udp_checksum plant 10 (0x6B ∷ 0x0F ∷ []) ≡ 0xFFFF
unfolding udp_checksum transport_checksum pseudo_header udp_header checksum_of
no_zero = refl

-- the first segment of a stream, at 1,234 ms: seconds 1, microseconds 234,000 = 0x39210, 40 bytes
abbrev start : Ends
start = record { source = record { 0 = 0xC0A80114 }; source_port = 49152; destination = record { 0 = 0xC0A8010A }; destination_port = 44818 }

abbrev first : Control
first = record { sequence = 0; acknowledgement = 0; bits = 2 }

known_segment : tcp_record 1234 start first [] ≡
    0x01 ∷ 0 ∷ 0 ∷ 0 ∷ 0x10 ∷ 0x92 ∷ 0x03 ∷ 0 ∷ 40 ∷ 0 ∷ 0 ∷ 0 ∷ 40 ∷ 0 ∷ 0 ∷ 0
    ∷ 0x45 ∷ 0x00 ∷ 0x00 ∷ 40 ∷ 0x00 ∷ 0x00 ∷ 0x40 ∷ 0x00 ∷ 0x40 ∷ 0x06 ∷ 0xB7 ∷ 0x61 ∷ 0xC0 ∷ 0xA8 ∷ 0x01 ∷ 0x14 ∷ 0xC0 ∷ 0xA8 ∷ 0x01 ∷ 0x0A
    ∷ 0xC0 ∷ 0x00 ∷ 0xAF ∷ 0x12 ∷ 0 ∷ 0 ∷ 0 ∷ 0 ∷ 0 ∷ 0 ∷ 0 ∷ 0 ∷ 0x50 ∷ 0x02 ∷ 0xFF ∷ 0xFF ∷ 0xBD ∷ 0x60 ∷ 0 ∷ 0 ∷ []
unfolding tcp_record packet_record record_header ipv4_header ipv4_checksum transport_checksum pseudo_header tcp_header checksum_of
known_segment = refl
