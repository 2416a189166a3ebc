-- Samples of the definitions, by hand.
use Rattle.std.proofs.Common.{◌≡◌, [], ◌∷◌, Some, None, refl}
use Rattle.std.specs.Prelude.{codes}
use Rattle.std.specs.Fmt.{digits}
use Rattle.std.specs.Net.Reader.{read_ipv4, read_octet, read_number}
use Rattle.hex.specs.Hex.{encode_with, decode_pairs}
use Rattle.cip_epath.specs.Reading.{target_reading, segments_at, segment_at, logical_at, value_at}
use Rattle.cip_events.specs.declared.event.Unanswered.TheVariants as unanswered
use Rattle.cip_types.specs.declared.names.Node.{Node}
use Rattle.trace_words.specs.Words.{bytes_of, node_of, number_of}
use Rattle.station_lines.specs.Attributes.Requested.{requested_at, requested_of, requested_without, next_number}
use Rattle.station_lines.specs.Attributes.Calls.{attribute_call_of, attribute_words, call_request}
use Rattle.station_lines.specs.Attributes.Names.{known_attribute}
use Rattle.station_lines.specs.Attributes.Replies.{reply_line, unanswered_line}
use Rattle.station_lines.specs.Attributes.Values.{value_text}
use Rattle.station_lines.specs.declared.attributes.requested.RequestedAttribute.{RequestedAttribute}
use Rattle.station_lines.specs.declared.attributes.requested.AttributeService.TheVariants.{Get, Set}
use Rattle.station_lines.specs.declared.attributes.requested.TargetAttribute.{TargetAttribute}
use Rattle.station_lines.specs.declared.attributes.calls.AttributeCall.TheVariants as call
use Rattle.station_lines.specs.declared.attributes.kind.AttributeType.TheVariants as kind
use Rattle.station_lines.specs.declared.attributes.replies.ReplyMoment.{ReplyMoment}

-- 192.168.1.10
abbrev pub target : Node
target = record { 0 = 0xC0A8010A }

-- the product name of the target
abbrev pub name_at : TargetAttribute
name_at = record { target = target; class = 1; instance = 1; attribute = 7 }

-- an attribute whose class takes two bytes, and whose instance four
abbrev pub far_at : TargetAttribute
far_at = record { target = target; class = 300; instance = 70000; attribute = 1 }

-- CALLS

get_line : attribute_call_of (codes "get 192.168.1.10 1 1 7") ≡ Some (call.Get name_at)
unfolding attribute_call_of attribute_words node_of number_of read_ipv4 read_octet read_number
get_line = refl

set_line : attribute_call_of (codes "set 192.168.1.10 1 1 7 01ff") ≡ Some (call.Set name_at (0x01 ∷ 0xFF ∷ []))
unfolding attribute_call_of attribute_words node_of number_of read_ipv4 read_octet read_number bytes_of decode_pairs
set_line = refl

get_takes_no_bytes : attribute_call_of (codes "get 192.168.1.10 1 1 7 01ff") ≡ None
unfolding attribute_call_of attribute_words node_of number_of read_ipv4 read_octet read_number
get_takes_no_bytes = refl

set_takes_bytes : attribute_call_of (codes "set 192.168.1.10 1 1 7") ≡ None
unfolding attribute_call_of attribute_words node_of number_of read_ipv4 read_octet read_number
set_takes_bytes = refl

numbers_are_decimal : attribute_call_of (codes "get 192.168.1.10 f5 1 7") ≡ None
unfolding attribute_call_of attribute_words node_of number_of read_ipv4 read_octet read_number
numbers_are_decimal = refl

-- REQUESTS

get_request : call_request (call.Get name_at) ≡ 0x0E ∷ 3 ∷ 0x20 ∷ 1 ∷ 0x24 ∷ 1 ∷ 0x30 ∷ 7 ∷ []
unfolding call_request
get_request = refl

set_request : call_request (call.Set far_at (0xAB ∷ []))
    ≡ 0x10 ∷ 6 ∷ 0x21 ∷ 0 ∷ 0x2C ∷ 0x01 ∷ 0x26 ∷ 0 ∷ 0x70 ∷ 0x11 ∷ 0x01 ∷ 0x00 ∷ 0x30 ∷ 1 ∷ 0xAB ∷ []
unfolding call_request
set_request = refl

get_is_requested : requested_of target 5 (0x0E ∷ 3 ∷ 0x20 ∷ 1 ∷ 0x24 ∷ 1 ∷ 0x30 ∷ 7 ∷ []) ≡ Some (record { number = 5; service = Get; at = name_at })
unfolding requested_of target_reading segments_at segment_at logical_at value_at
get_is_requested = refl

set_is_requested : requested_of target 6 (0x10 ∷ 6 ∷ 0x21 ∷ 0 ∷ 0x2C ∷ 0x01 ∷ 0x26 ∷ 0 ∷ 0x70 ∷ 0x11 ∷ 0x01 ∷ 0x00 ∷ 0x30 ∷ 1 ∷ 0xAB ∷ [])
    ≡ Some (record { number = 6; service = Set; at = far_at })
unfolding requested_of target_reading segments_at segment_at logical_at value_at
set_is_requested = refl

-- Get_Attributes_All, a path without an attribute, a path that runs past the end
all_is_not_requested : requested_of target 5 (0x01 ∷ 2 ∷ 0x20 ∷ 1 ∷ 0x24 ∷ 1 ∷ []) ≡ None
unfolding requested_of target_reading segments_at segment_at logical_at value_at
all_is_not_requested = refl

no_attribute_is_requested : requested_of target 5 (0x0E ∷ 2 ∷ 0x20 ∷ 1 ∷ 0x24 ∷ 1 ∷ []) ≡ None
unfolding requested_of target_reading segments_at segment_at logical_at value_at
no_attribute_is_requested = refl

half_a_path_asks_nothing : requested_of target 5 (0x0E ∷ 3 ∷ 0x20 ∷ 1 ∷ 0x24 ∷ 1 ∷ []) ≡ None
unfolding requested_of
half_a_path_asks_nothing = refl

first_number : next_number 0 ≡ 1
first_number = refl

numbers_go_round : next_number 0xFFFFFFFF ≡ 0
numbers_go_round = refl

-- VALUES

a_state : value_text kind.Usint (3 ∷ []) ≡ codes "3"
unfolding value_text digits encode_with
a_state = refl

a_vendor : value_text kind.Uint (0x39 ∷ 0x05 ∷ []) ≡ codes "1337"
unfolding value_text digits encode_with
a_vendor = refl

a_serial_number : value_text kind.Udint (0x78 ∷ 0x56 ∷ 0x34 ∷ 0x12 ∷ []) ≡ codes "305419896"
unfolding value_text digits encode_with
a_serial_number = refl

a_status_word : value_text kind.Word (0x61 ∷ 0x00 ∷ []) ≡ codes "0061"
unfolding value_text digits encode_with
a_status_word = refl

flags : value_text kind.Dword (0x0F ∷ 0x00 ∷ 0x00 ∷ 0x80 ∷ []) ≡ codes "8000000f"
unfolding value_text digits encode_with
flags = refl

a_revision : value_text kind.Revision (2 ∷ 17 ∷ []) ≡ codes "2.17"
unfolding value_text digits encode_with
a_revision = refl

a_name : value_text kind.ShortString (3 ∷ 0x61 ∷ 0x09 ∷ 0x7A ∷ []) ≡ codes "\"a?z\""
unfolding value_text digits encode_with
a_name = refl

no_name : value_text kind.ShortString (0 ∷ []) ≡ codes "\"\""
unfolding value_text digits encode_with
no_name = refl

a_name_of_another_length : value_text kind.ShortString (4 ∷ 0x61 ∷ 0x62 ∷ []) ≡ codes "bytes 046162"
unfolding value_text digits encode_with
a_name_of_another_length = refl

a_host_name : value_text kind.CountedString (2 ∷ 0 ∷ 0x61 ∷ 0x62 ∷ []) ≡ codes "\"ab\""
unfolding value_text digits encode_with
a_host_name = refl

a_padded_host_name : value_text kind.CountedString (1 ∷ 0 ∷ 0x61 ∷ 0 ∷ []) ≡ codes "\"a\""
unfolding value_text digits encode_with
a_padded_host_name = refl

an_even_host_name_has_no_pad : value_text kind.CountedString (2 ∷ 0 ∷ 0x61 ∷ 0x62 ∷ 0 ∷ []) ≡ codes "bytes 0200616200"
unfolding value_text digits encode_with
an_even_host_name_has_no_pad = refl

a_physical_address : value_text kind.PhysicalAddress (0x02 ∷ 0x00 ∷ 0x5E ∷ 0x10 ∷ 0xAB ∷ 0x0C ∷ []) ≡ codes "02:00:5e:10:ab:0c"
unfolding value_text digits encode_with
a_physical_address = refl

two_bytes_are_no_long_number : value_text kind.Udint (1 ∷ 2 ∷ []) ≡ codes "bytes 0102"
unfolding value_text digits encode_with
two_bytes_are_no_long_number = refl

no_bytes : value_text kind.Raw ([]) ≡ codes "bytes -"
unfolding value_text digits encode_with
no_bytes = refl

addresses : value_text kind.Interface (0x0A ∷ 0x01 ∷ 0xA8 ∷ 0xC0 ∷ 0x00 ∷ 0xFF ∷ 0xFF ∷ 0xFF ∷ 0xFE ∷ 0x01 ∷ 0xA8 ∷ 0xC0 ∷ 0 ∷ 0 ∷ 0 ∷ 0 ∷ 0 ∷ 0 ∷ 0 ∷ 0 ∷ 0 ∷ 0 ∷ [])
    ≡ codes "address 192.168.1.10 mask 255.255.255.0 gateway 192.168.1.254 name-server 0.0.0.0 name-server-2 0.0.0.0 domain \"\""
unfolding value_text digits encode_with
addresses = refl

an_inactivity_time_out : known_attribute 0xF5 1 13 ≡ Some (kind.Uint, codes "inactivity-timeout")
unfolding known_attribute
an_inactivity_time_out = refl

a_class_of_a_maker : known_attribute 0x64 0 2 ≡ Some (kind.Uint, codes "max-instance")
unfolding known_attribute
a_class_of_a_maker = refl

an_instance_of_a_maker : known_attribute 0x64 1 2 ≡ None
unfolding known_attribute
an_instance_of_a_maker = refl

-- LINES

abbrev pub moment : ReplyMoment
moment = record { number = 9; ms = 250 }

abbrev pub requested_name : RequestedAttribute
requested_name = record { number = 5; service = Get; at = name_at }

abbrev pub set_name : RequestedAttribute
set_name = record { number = 6; service = Set; at = name_at }

a_value : reply_line moment (Some requested_name) 0 [] (2 ∷ 0x48 ∷ 0x69 ∷ []) ≡ codes "9 at 250 get 192.168.1.10 1 1 7 product-name \"Hi\"\n"
unfolding known_attribute value_text digits encode_with
a_value = refl

it_is_set : reply_line moment (Some set_name) 0 [] [] ≡ codes "9 at 250 set 192.168.1.10 1 1 7 done\n"
unfolding digits encode_with
it_is_set = refl

it_is_refused : reply_line moment (Some set_name) 0x0E (0x34 ∷ 0x12 ∷ []) [] ≡ codes "9 at 250 set 192.168.1.10 1 1 7 status 0e (attribute not settable) additional 3412\n"
unfolding digits encode_with
it_is_refused = refl

it_timed_out : unanswered_line moment (Some requested_name) unanswered.TimedOut ≡ codes "9 at 250 get 192.168.1.10 1 1 7 unanswered timed-out\n"
unfolding digits encode_with
it_timed_out = refl

an_encapsulation_status : unanswered_line moment (Some requested_name) (unanswered.Encap 0x64) ≡ codes "9 at 250 get 192.168.1.10 1 1 7 unanswered encap 100\n"
unfolding digits encode_with
an_encapsulation_status = refl

-- the request of another number goes on
others_wait : requested_without 5 (requested_name ∷ set_name ∷ []) ≡ set_name ∷ []
others_wait = refl

found_by_its_number : requested_at 6 (requested_name ∷ set_name ∷ []) ≡ Some set_name
found_by_its_number = refl
