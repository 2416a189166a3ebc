-- The lines of a scanner's profile as they are read, and as they are written.
use Rattle.std.proofs.Common.{◌≡◌, true, false, List, [], ◌∷◌, ℕ, map, codes, refl, lit<, Option, Some, None}
use Rattle.std.specs.Prelude.{option_map}
use Rattle.std.proofs.Math.Nat.{mod-lt}
use Rattle.std.specs.Fmt.{digits}
use Rattle.std.specs.Net.Reader.{read_ipv4, read_octet, read_number}
use Rattle.hex.specs.Hex.{decode_pairs, encode_with}
use Rattle.cip_netparams.specs.declared.Trigger.TheVariants.{Cyclic, ChangeOfState}
use Rattle.cip_productions.specs.declared.kind.Kind.TheVariants.{ExclusiveOwner, InputOnly, ListenOnly}
use Rattle.scanner_table.specs.declared.profile.SlotConfig.{SlotConfig}
use Rattle.trace_lines.specs.declared.forms.ScannerLine.{ScannerLine}
use Rattle.trace_lines.specs.declared.forms.TermLine.TheVariants.{Openings, Serials}
use Rattle.trace_words.specs.Words.{words_of, number_of, node_of, bytes_of, instance_of, line_text}
use Rattle.trace_lines.specs.Kinds.{kind_of, multicast_of, trigger_of, key_of_bytes}
use Rattle.trace_lines.specs.Slots.{scanner_reader, openings_reader, serials_reader, slot_reader, scanner_with, slot_words, scanner_text}

-- ---- slots

-- the exclusive owner of the output 150, which gathers the input 100, both of 4 bytes, with the configuration 151
abbrev owner : SlotConfig
owner = record {
  target = record { 0 = 0xC0A8010A };
  kind = ExclusiveOwner;
  config = Some 151;
  consumed = 150;
  produced = 100;
  out_len = 4;
  in_len = 6;
  o_t_rpi = 10000;
  t_o_rpi = 20000;
  mult = 2;
  multicast = false;
  key = None;
  config_data = [];
  trigger = Cyclic;
  inhibit = 0;
}

-- it sends a configuration to a compatible device of revision 2.3, which produces at changes
abbrev keyed : SlotConfig
keyed = record owner { key = Some (record { vendor = 0x0102; device_type = 12; product = 7; compatible = true; major = 2; minor = 3; seven_bits = mod-lt 0x82 (lit< tt) }); config_data = 0xAB ∷ 0x0C ∷ []; trigger = ChangeOfState; inhibit = 5 }

-- an input is gathered without a configuration, and another one is listened to
abbrev gatherer : SlotConfig
gatherer = record owner { kind = InputOnly; config = None; consumed = 152; out_len = 0; multicast = true; trigger = ChangeOfState }

abbrev listener : SlotConfig
listener = record gatherer { kind = ListenOnly; consumed = 153; trigger = Cyclic }

abbrev slot_of : List ℕ → Option SlotConfig
slot_of line = option_map (λ got. got.0) (slot_reader (words_of line))

slots_are_read :
    map slot_of (
    codes "192.168.1.10 exclusive 151 150 100 4 6 10000 20000 2 p2p - -"
    ∷ codes "192.168.1.10 exclusive 151 150 100 4 6 10000 20000 2 p2p - - cyclic 0"
    ∷ codes "192.168.1.10 exclusive 151 150 100 4 6 10000 20000 2 p2p 02010C0007008203 AB0c change 5"
    ∷ codes "192.168.1.10 input - 152 100 0 6 10000 20000 2 multicast - - change 0"
    ∷ codes "192.168.1.10 listen - 153 100 0 6 10000 20000 2 multicast - -"
    ∷ []
    )
    ≡ Some owner ∷ Some owner ∷ Some keyed ∷ Some gatherer ∷ Some listener ∷ []
unfolding kind_of multicast_of trigger_of instance_of number_of node_of bytes_of key_of_bytes decode_pairs read_ipv4 read_octet read_number
slots_are_read = refl

-- what is wrong with times and lengths is no matter of a line
times_are_read_as_they_are : option_map (λ slot. slot.inhibit) (slot_of (codes "192.168.1.10 exclusive - 150 100 70000 6 0 20000 255 p2p - - cyclic 9")) ≡ Some 9
unfolding kind_of multicast_of trigger_of instance_of number_of node_of bytes_of key_of_bytes decode_pairs read_ipv4 read_octet read_number
times_are_read_as_they_are = refl

-- another kind, no instance of a configuration, another word for who hears, a key of seven bytes, a trigger without
-- an inhibit, another trigger, an inhibit past 8 bits, a word too many, and a multiplier past 8 bits
other_slots_are_bad :
    map slot_of (
    codes "192.168.1.10 owner 151 150 100 4 6 10000 20000 2 p2p - -"
    ∷ codes "192.168.1.10 exclusive x 150 100 4 6 10000 20000 2 p2p - -"
    ∷ codes "192.168.1.10 exclusive 151 150 100 4 6 10000 20000 2 unicast - -"
    ∷ codes "192.168.1.10 exclusive 151 150 100 4 6 10000 20000 2 p2p 02010c00070082 -"
    ∷ codes "192.168.1.10 exclusive 151 150 100 4 6 10000 20000 2 p2p - - cyclic"
    ∷ codes "192.168.1.10 exclusive 151 150 100 4 6 10000 20000 2 p2p - - application 0"
    ∷ codes "192.168.1.10 exclusive 151 150 100 4 6 10000 20000 2 p2p - - change 256"
    ∷ codes "192.168.1.10 exclusive 151 150 100 4 6 10000 20000 2 p2p - - change 5 0"
    ∷ codes "192.168.1.10 exclusive 151 150 100 4 6 10000 20000 256 p2p - -"
    ∷ codes "192.168.1.10 exclusive 151 150 100 4 6 10000 20000 2 p2p -"
    ∷ []
    )
    ≡ None ∷ None ∷ None ∷ None ∷ None ∷ None ∷ None ∷ None ∷ None ∷ None ∷ []
unfolding kind_of multicast_of trigger_of instance_of number_of node_of bytes_of key_of_bytes decode_pairs read_ipv4 read_octet read_number
other_slots_are_bad = refl

slots_are_written :
    map (λ slot. line_text (slot_words slot)) (owner ∷ keyed ∷ gatherer ∷ listener ∷ record owner { inhibit = 9 } ∷ [])
    ≡ codes "slot 192.168.1.10 exclusive 151 150 100 4 6 10000 20000 2 p2p - -\n"
    ∷ codes "slot 192.168.1.10 exclusive 151 150 100 4 6 10000 20000 2 p2p 02010c0007008203 ab0c change 5\n"
    ∷ codes "slot 192.168.1.10 input - 152 100 0 6 10000 20000 2 multicast - - change 0\n"
    ∷ codes "slot 192.168.1.10 listen - 153 100 0 6 10000 20000 2 multicast - -\n"
    ∷ codes "slot 192.168.1.10 exclusive 151 150 100 4 6 10000 20000 2 p2p - - cyclic 9\n"
    ∷ []
unfolding digits encode_with
slots_are_written = refl

-- ---- scanners

abbrev scanner : ScannerLine
scanner = record { incarnation = 32; node = record { 0 = 0xC0A80114 }; vendor = 1; serial = 305419896; open_timeout = 2000; retry = 70000 }

scanners_are_read : option_map (λ got. got.0) (scanner_reader (words_of (codes "32 192.168.1.20 1 305419896 2000 70000"))) ≡ Some scanner
unfolding number_of node_of read_ipv4 read_octet read_number
scanners_are_read = refl

scanners_are_written :
    scanner_text (scanner_with scanner None (record { tidy = false; openings = None; serials = None; ids = None }) (owner ∷ listener ∷ []))
    ≡ codes "scanner 32 192.168.1.20 1 305419896 2000 70000\nslot 192.168.1.10 exclusive 151 150 100 4 6 10000 20000 2 p2p - -\nslot 192.168.1.10 listen - 153 100 0 6 10000 20000 2 multicast - -\n"
unfolding digits
scanners_are_written = refl

-- the limit on numbers and what is said of openings go before the slots
limits_are_written :
    scanner_text (scanner_with scanner (Some 8) (record { tidy = true; openings = Some 1; serials = Some 65535; ids = None }) (listener ∷ []))
    ≡ codes "scanner 32 192.168.1.20 1 305419896 2000 70000\nnewer 8\ntidy\nopenings 1\nserials 65535\nslot 192.168.1.10 listen - 153 100 0 6 10000 20000 2 multicast - -\n"
unfolding digits
limits_are_written = refl

-- an opening number of a byte, and a serial number of two
terms_are_read : (option_map (λ got. got.0) (openings_reader (words_of (codes "48"))) ≡ Some (Openings 48)) × (option_map (λ got. got.0) (serials_reader (words_of (codes "65535"))) ≡ Some (Serials 65535))
unfolding number_of read_number
terms_are_read = (refl, refl)

terms_are_short : (openings_reader (words_of (codes "256")) ≡ None) × (serials_reader (words_of (codes "65536")) ≡ None)
unfolding number_of read_number
terms_are_short = (refl, refl)
