-- The text of a trace of an adapter with objects of its maker's own as it is read: their classes are behind the limits, or
-- where they would be, and before the heartbeats.
use Rattle.std.proofs.Common.{◌≡◌, true, List, [], ◌∷◌, ◌++◌, ℕ, map, codes, refl, Some, None, Ok, Err}
use Rattle.std.specs.Fmt.{digits}
use Rattle.std.specs.Net.Reader.{read_ipv4, read_octet, read_number}
use Rattle.hex.specs.Hex.{decode_pairs}
use Rattle.adapter_table.specs.Profiles.{no_limits, profile_fault}
use Rattle.adapter_table.specs.declared.profile.Profile.{Profile}
use Rattle.cip_tables.specs.declared.table.Config.TheVariants.{Adapter}
use Rattle.trace_words.specs.Words.{number_of, node_of, bytes_of}
use Rattle.trace_lines.specs.Kinds.{closers_of}
use Rattle.trace_text.specs.declared.trace.TraceFault.TheVariants.{BadLine, BadProfile}
use Rattle.trace_text.specs.Forms.{line_of}
use Rattle.trace_text.specs.Reading.{builder_after, trace_reading}
use Rattle.trace_text.specs.Written.{config_lines}
use Rattle.trace_text.proofs.DescribedSamples.{rack}

abbrev profile : Profile
profile = record {
  incarnation = 16;
  node = record { 0 = 0xC0A8010A };
  mask = 0xFFFFFF00;
  identity = record { vendor = 1; device_type = 12; product = 7; major = 2; minor = 3 };
  outputs = [];
  inputs = record { instance = 100; len = 4 } ∷ [];
  config = None;
  input_only = 152;
  listen_only = 153;
  description = None;
  limits = no_limits;
  objects = 100 ∷ 768 ∷ [];
  ids = None;
}

abbrev front : List ℕ
front = codes "adapter 16 192.168.1.10 255.255.255.0 1 12 7 2 3\ninput 100 4\n"

abbrev describe : List ℕ
describe = codes "describe 7 5237 44818 100 15 02005e100007 120\n"

abbrev objects : List ℕ
objects = codes "object 100\nobject 768\n"

abbrev heartbeat : List ℕ
heartbeat = codes "heartbeat 152 153\n"

-- behind the points, behind the configuration, behind the description, and behind a limit
objects_are_read :
    map trace_reading (
    (front ++ (objects ++ heartbeat))
    ∷ (front ++ (codes "config 151 2\n" ++ (objects ++ heartbeat)))
    ∷ (front ++ (describe ++ (objects ++ heartbeat)))
    ∷ (front ++ (codes "closers own\n" ++ (objects ++ heartbeat)))
    ∷ []
    )
    ≡ Ok (record { config = Adapter profile; events = [] })
    ∷ Ok (record { config = Adapter (record profile { config = Some (record { instance = 151; len = 2 }) }); events = [] })
    ∷ Ok (record { config = Adapter (record profile { description = Some rack }); events = [] })
    ∷ Ok (record { config = Adapter (record profile { limits = record no_limits { own_closers = true } }); events = [] })
    ∷ []
unfolding trace_reading builder_after line_of profile_fault number_of node_of bytes_of closers_of decode_pairs read_ipv4 read_octet read_number lib.Count.ones
objects_are_read = refl

-- before a limit, before the description, before the configuration, before an input, and behind the heartbeats
misplaced : map trace_reading (
    (front ++ codes "object 100\nclosers own\n")
    ∷ (front ++ (codes "object 100\n" ++ describe))
    ∷ (front ++ codes "object 100\nconfig 151 2\n")
    ∷ (front ++ codes "object 100\ninput 101 4\n")
    ∷ (front ++ (heartbeat ++ codes "object 100\n"))
    ∷ []
    )
    ≡ Err (BadLine 4) ∷ Err (BadLine 4) ∷ Err (BadLine 4) ∷ Err (BadLine 4) ∷ Err (BadLine 4) ∷ []
unfolding trace_reading builder_after line_of profile_fault number_of node_of bytes_of closers_of decode_pairs read_ipv4 read_octet read_number lib.Count.ones
misplaced = refl

-- a class of another object, and one that is named twice
others_classes : map trace_reading ((front ++ (codes "object 4\n" ++ heartbeat)) ∷ (front ++ (codes "object 100\nobject 100\n" ++ heartbeat)) ∷ []) ≡ Err (BadProfile 10) ∷ Err (BadProfile 10) ∷ []
unfolding trace_reading builder_after line_of profile_fault number_of node_of bytes_of decode_pairs read_ipv4 read_octet read_number lib.Count.ones
others_classes = refl

objects_are_written : config_lines (Adapter profile) ≡ front ++ (objects ++ heartbeat)
unfolding digits
objects_are_written = refl
