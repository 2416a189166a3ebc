-- The text of a scanner's trace as it is read, line by line and whole.
use Rattle.std.proofs.Common.{◌≡◌, false, [], ◌∷◌, codes, refl, None, Ok, Err}
use Rattle.std.specs.Net.Reader.{read_ipv4, read_octet, read_number}
use Rattle.cip_netparams.specs.declared.Trigger.TheVariants.{Cyclic}
use Rattle.cip_productions.specs.declared.kind.Kind.TheVariants.{InputOnly}
use Rattle.cip_events.specs.declared.event.Event.TheVariants.{Start}
use Rattle.scanner_table.specs.Profiles.{profile_fault}
use Rattle.scanner_table.specs.declared.profile.SlotConfig.{SlotConfig}
use Rattle.scanner_table.specs.declared.profile.ScannerProfile.{ScannerProfile}
use Rattle.cip_tables.specs.declared.table.Config.TheVariants.{Scanner}
use Rattle.trace_lines.specs.Kinds.{kind_of, multicast_of, key_of_bytes}
use Rattle.trace_words.specs.Words.{number_of, node_of, bytes_of, instance_of}
use Rattle.trace_text.specs.declared.trace.TraceFault.TheVariants.{BadLine, BadProfile}
use Rattle.trace_text.specs.Forms.{line_of}
use Rattle.trace_text.specs.Reading.{builder_after, trace_reading}

abbrev gatherer : SlotConfig
gatherer = record {
  target = record { 0 = 0xC0A8010A };
  kind = InputOnly;
  config = None;
  consumed = 152;
  produced = 100;
  out_len = 0;
  in_len = 4;
  o_t_rpi = 10000;
  t_o_rpi = 10000;
  mult = 2;
  multicast = false;
  key = None;
  config_data = [];
  trigger = Cyclic;
  inhibit = 0;
}

abbrev profile : ScannerProfile
profile = record { incarnation = 32; node = record { 0 = 0xC0A80114 }; vendor = 1; serial = 2; open_timeout = 2000; retry = 3000; newer = None; tidy = false; openings = None; serials = None; ids = None; slots = gatherer ∷ [] }

scanners_trace : trace_reading (codes "scanner 32 192.168.1.20 1 2 2000 3000\nslot 192.168.1.10 input - 152 100 0 4 10000 10000 2 p2p - -\n# it begins\nstart 0\n") ≡ Ok (record { config = Scanner profile; events = (Start 0, None) ∷ [] })
unfolding trace_reading builder_after line_of profile_fault kind_of multicast_of instance_of number_of node_of bytes_of key_of_bytes read_ipv4 read_octet read_number
scanners_trace = refl

-- without a slot the text is whole, and the profile is not
no_slot : trace_reading (codes "scanner 32 192.168.1.20 1 2 2000 3000\n") ≡ Err (BadProfile 3)
unfolding trace_reading builder_after line_of profile_fault number_of node_of read_ipv4 read_octet read_number
no_slot = refl

-- a slot before the scanner
early_slot : trace_reading (codes "slot 192.168.1.10 input - 152 100 0 4 10000 10000 2 p2p - -\n") ≡ Err (BadLine 1)
unfolding trace_reading builder_after line_of kind_of multicast_of instance_of number_of node_of bytes_of key_of_bytes read_ipv4 read_octet read_number
early_slot = refl

-- a slot behind an event, and a point among the slots, go before what is wrong with the profile
late_slot : trace_reading (codes "scanner 32 192.168.1.20 1 2 2000 3000\nstart 0\nslot 192.168.1.10 input - 152 100 0 4 10000 10000 2 p2p - -\n") ≡ Err (BadLine 3)
unfolding trace_reading builder_after line_of kind_of multicast_of instance_of number_of node_of bytes_of key_of_bytes read_ipv4 read_octet read_number
late_slot = refl

point_of_scanner : trace_reading (codes "scanner 0 192.168.1.20 1 2 2000 3000\ninput 100 4\n") ≡ Err (BadLine 2)
unfolding trace_reading builder_after line_of number_of node_of read_ipv4 read_octet read_number
point_of_scanner = refl
