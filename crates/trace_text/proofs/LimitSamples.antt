-- The text of a trace of an adapter with limits of its maker's as it is read: the limits are behind the description, or where
-- it would be, and before the heartbeats. And the lines of an explicit request and of an application's answer.
use Rattle.std.proofs.Common.{◌≡◌, true, List, [], ◌∷◌, ◌++◌, ℕ, map, codes, refl, Some, None, Ok, Err}
use Rattle.std.specs.Fmt.{digits}
use Rattle.std.specs.Net.Reader.{read_ipv4, read_octet, read_number}
use Rattle.hex.specs.Hex.{decode_pairs, encode_with}
use Rattle.cip_events.specs.declared.event.Event.TheVariants.{Explicit, Respond}
use Rattle.adapter_table.specs.Profiles.{no_limits, profile_fault}
use Rattle.adapter_table.specs.declared.maker_limits.MakerLimits.{MakerLimits}
use Rattle.adapter_table.specs.declared.profile.Profile.{Profile}
use Rattle.cip_tables.specs.declared.table.Config.TheVariants.{Adapter}
use Rattle.trace_words.specs.Words.{number_of, node_of, bytes_of, general_of, line_text}
use Rattle.trace_lines.specs.Kinds.{closers_of, openings_of}
use Rattle.trace_text.specs.declared.trace.TraceFault.TheVariants.{BadLine, BadProfile}
use Rattle.trace_text.specs.Forms.{line_of, event_of}
use Rattle.trace_text.specs.Reading.{builder_after, trace_reading}
use Rattle.trace_text.specs.Written.{event_words, config_lines}
use Rattle.trace_text.proofs.DescribedSamples.{rack}

-- a least interval of 1 ms, places for one owner, two readers, no listener and eight class 3 connections, four connections of one
-- node and 20 openings in a second, own closers, and sequence numbers that are ahead by less than 1000
abbrev limits : MakerLimits
limits = record no_limits { least_rpi = Some 1000; places = Some (record { owners = 1; readers = 2; listeners = 0; class3_connections = Some 8 }); node_connections = Some (record { connections = 4; openings = Some 20 }); own_closers = true; newer = Some 1000 }

abbrev profile : Profile
profile = record {
  incarnation = 16;
  node = record { 0 = 0xC0A8010A };
  mask = 0xFFFFFF00;
  identity = record { vendor = 1; device_type = 12; product = 7; major = 2; minor = 3 };
  outputs = [];
  inputs = record { instance = 100; len = 4 } ∷ [];
  config = None;
  input_only = 152;
  listen_only = 153;
  description = None;
  limits = limits;
  objects = [];
  ids = None;
}

abbrev front : List ℕ
front = codes "adapter 16 192.168.1.10 255.255.255.0 1 12 7 2 3\ninput 100 4\n"

abbrev describe : List ℕ
describe = codes "describe 7 5237 44818 100 15 02005e100007 120\n"

abbrev limited : List ℕ
limited = codes "least-rpi 1000\nplaces 1 2 0 8\nnode-connections 4 openings 20\nclosers own\nnewer 1000\n"

abbrev heartbeat : List ℕ
heartbeat = codes "heartbeat 152 153\n"

limits_are_read :
    map trace_reading (
    (front ++ (limited ++ heartbeat))
    ∷ (front ++ (codes "config 151 2\n" ++ (describe ++ (limited ++ heartbeat))))
    ∷ (front ++ (codes "config 151 2\nclosers own\n" ++ heartbeat))
    ∷ []
    )
    ≡ Ok (record { config = Adapter profile; events = [] })
    ∷ Ok (record { config = Adapter (record profile { config = Some (record { instance = 151; len = 2 }); description = Some rack }); events = [] })
    ∷ Ok (record { config = Adapter (record profile { config = Some (record { instance = 151; len = 2 }); limits = record no_limits { own_closers = true } }); events = [] })
    ∷ []
unfolding trace_reading builder_after line_of profile_fault number_of node_of bytes_of closers_of openings_of decode_pairs read_ipv4 read_octet read_number lib.Count.ones
limits_are_read = refl

-- before the description, twice, before the configuration, and behind the heartbeats
misplaced : map trace_reading (
    (front ++ (codes "newer 1000\n" ++ describe))
    ∷ (front ++ codes "newer 1000\nnewer 1000\n")
    ∷ (front ++ codes "closers own\nconfig 151 2\n")
    ∷ (front ++ (heartbeat ++ codes "closers own\n"))
    ∷ []
    )
    ≡ Err (BadLine 4) ∷ Err (BadLine 4) ∷ Err (BadLine 4) ∷ Err (BadLine 4) ∷ []
unfolding trace_reading builder_after line_of profile_fault number_of node_of bytes_of closers_of openings_of decode_pairs read_ipv4 read_octet read_number lib.Count.ones
misplaced = refl

-- no connection of one node, no opening in a second, and 65 class 3 connections
no_connection :
    map trace_reading (
    (front ++ (codes "node-connections 0\n" ++ heartbeat))
    ∷ (front ++ (codes "node-connections 4 openings 0\n" ++ heartbeat))
    ∷ (front ++ (codes "places 1 2 0 65\n" ++ heartbeat))
    ∷ []
    )
    ≡ Err (BadProfile 9) ∷ Err (BadProfile 9) ∷ Err (BadProfile 9) ∷ []
unfolding trace_reading builder_after line_of profile_fault number_of node_of bytes_of openings_of decode_pairs read_ipv4 read_octet read_number lib.Count.ones
no_connection = refl

limits_are_written : config_lines (Adapter profile) ≡ front ++ (limited ++ heartbeat)
unfolding digits
limits_are_written = refl

-- explicit requests: Get_Attribute_Single of a device's vendor number, one of no bytes, without bytes, without a number, and with a
-- number past 32 bits
explicit_is_read :
    map event_of (
    codes "explicit 192.168.1.20 7 0e03200124013001"
    ∷ codes "explicit 192.168.1.20 4294967295 -"
    ∷ codes "explicit 192.168.1.20 7"
    ∷ codes "explicit 192.168.1.20 0e03200124013001"
    ∷ codes "explicit 192.168.1.20 4294967296 -"
    ∷ []
    )
    ≡ Some (Explicit (record { 0 = 0xC0A80114 }) 7 (0x0E ∷ 3 ∷ 0x20 ∷ 1 ∷ 0x24 ∷ 1 ∷ 0x30 ∷ 1 ∷ []))
    ∷ Some (Explicit (record { 0 = 0xC0A80114 }) 4294967295 [])
    ∷ None
    ∷ None
    ∷ None
    ∷ []
unfolding event_of line_of number_of node_of bytes_of decode_pairs read_ipv4 read_octet read_number lib.Count.ones
explicit_is_read = refl

explicit_is_written : line_text (event_words (Explicit (record { 0 = 0xC0A80114 }) 7 (0x0E ∷ 3 ∷ 0x20 ∷ 1 ∷ []))) ≡ codes "explicit 192.168.1.20 7 0e032001\n"
unfolding digits encode_with
explicit_is_written = refl

-- answers: two bytes, a status alone, and the largest number; a number past 64 bits, a status of four digits, no status, no
-- bytes, and a word too many
answer_is_read :
    map event_of (
    codes "answer 1 00 abcd"
    ∷ codes "answer 7 1F -"
    ∷ codes "answer 18446744073709551615 ff -"
    ∷ codes "answer 18446744073709551616 00 -"
    ∷ codes "answer 1 0010 -"
    ∷ codes "answer 1 abcd"
    ∷ codes "answer 1 00"
    ∷ codes "answer 1 00 - -"
    ∷ []
    )
    ≡ Some (Respond 1 0 (0xAB ∷ 0xCD ∷ []))
    ∷ Some (Respond 7 0x1F [])
    ∷ Some (Respond 18446744073709551615 255 [])
    ∷ None
    ∷ None
    ∷ None
    ∷ None
    ∷ None
    ∷ []
unfolding event_of line_of number_of general_of bytes_of decode_pairs
answer_is_read = refl

answer_is_written : line_text (event_words (Respond 7 0x1F (0xAB ∷ 0xCD ∷ []))) ≡ codes "answer 7 1f abcd\n"
unfolding digits encode_with
answer_is_written = refl
