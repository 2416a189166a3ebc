-- The text of a described adapter's trace as it is read: the description is behind the configuration, and before the
-- heartbeats.
use Rattle.std.proofs.Common.{◌≡◌, List, [], ◌∷◌, ◌++◌, ℕ, map, codes, refl, Some, None, Ok, Err}
use Rattle.std.specs.Prelude.{Result}
use Rattle.std.specs.Net.Reader.{read_ipv4, read_octet, read_number}
use Rattle.hex.specs.Hex.{decode_pairs}
use Rattle.cip_events.specs.declared.event.Event.TheVariants.{Inquiry}
use Rattle.adapter_table.specs.Profiles.{no_limits, profile_fault}
use Rattle.adapter_table.specs.declared.profile.Description.{Description}
use Rattle.adapter_table.specs.declared.profile.Profile.{Profile}
use Rattle.cip_tables.specs.declared.table.Config.TheVariants.{Adapter}
use Rattle.trace_words.specs.Words.{number_of, node_of, bytes_of}
use Rattle.trace_text.specs.declared.trace.Trace.{Trace}
use Rattle.trace_text.specs.declared.trace.TraceFault.{TraceFault}
use Rattle.trace_text.specs.declared.trace.TraceFault.TheVariants.{BadLine, BadProfile}
use Rattle.trace_text.specs.Forms.{line_of, event_of}
use Rattle.trace_text.specs.Reading.{builder_after, trace_reading}

abbrev pub rack : Description
rack = record { serial = 7; name = 82 ∷ 55 ∷ []; port = 44818; speed = 100; flags = 15; mac = 2 ∷ 0 ∷ 94 ∷ 16 ∷ 0 ∷ 7 ∷ []; inactivity = 120 }

abbrev profile : Profile
profile = record {
  incarnation = 16;
  node = record { 0 = 0xC0A8010A };
  mask = 0xFFFFFF00;
  identity = record { vendor = 1; device_type = 12; product = 7; major = 2; minor = 3 };
  outputs = [];
  inputs = record { instance = 100; len = 4 } ∷ [];
  config = None;
  input_only = 152;
  listen_only = 153;
  description = Some rack;
  limits = no_limits;
  objects = [];
  ids = None;
}

abbrev front : List ℕ
front = codes "adapter 16 192.168.1.10 255.255.255.0 1 12 7 2 3\ninput 100 4\n"

abbrev describe : List ℕ
describe = codes "describe 7 5237 44818 100 15 02005e100007 120\n"

abbrev heartbeat : List ℕ
heartbeat = codes "heartbeat 152 153\n"

abbrev readings : List (Result Trace TraceFault)
readings = map trace_reading (
    (front ++ (describe ++ heartbeat))
    ∷ (front ++ (codes "config 151 2\n" ++ (describe ++ heartbeat)))
    ∷ (front ++ heartbeat)
    ∷ []
    )

descriptions_are_read :
    readings
    ≡ Ok (record { config = Adapter profile; events = [] })
    ∷ Ok (record { config = Adapter (record profile { config = Some (record { instance = 151; len = 2 }) }); events = [] })
    ∷ Ok (record { config = Adapter (record profile { description = None }); events = [] })
    ∷ []
unfolding trace_reading builder_after line_of profile_fault number_of node_of bytes_of decode_pairs read_ipv4 read_octet read_number lib.Count.ones
descriptions_are_read = refl

-- before the configuration, twice, and behind the heartbeats
misplaced : map trace_reading (
    (front ++ (describe ++ codes "config 151 2\n"))
    ∷ (front ++ (describe ++ describe))
    ∷ (front ++ (heartbeat ++ describe))
    ∷ []
    )
    ≡ Err (BadLine 4) ∷ Err (BadLine 4) ∷ Err (BadLine 4) ∷ []
unfolding trace_reading builder_after line_of profile_fault number_of node_of bytes_of decode_pairs read_ipv4 read_octet read_number lib.Count.ones
misplaced = refl

-- a physical address of five bytes
another_address : trace_reading (front ++ (codes "describe 7 5237 44818 100 15 02005e1000 120\n" ++ heartbeat)) ≡ Err (BadProfile 8)
unfolding trace_reading builder_after line_of profile_fault number_of node_of bytes_of decode_pairs read_ipv4 read_octet read_number lib.Count.ones
another_address = refl

inquiries_are_read : map event_of (codes "inquiry 192.168.1.20 6300" ∷ codes "inquiry 192.168.1.20 -" ∷ codes "inquiry 192.168.1.20" ∷ []) ≡ Some (Inquiry (record { 0 = 0xC0A80114 }) (0x63 ∷ 0 ∷ [])) ∷ Some (Inquiry (record { 0 = 0xC0A80114 }) []) ∷ None ∷ []
unfolding event_of line_of number_of node_of bytes_of decode_pairs read_ipv4 read_octet read_number lib.Count.ones
inquiries_are_read = refl
