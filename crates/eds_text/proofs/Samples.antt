-- Parts of data sheets, worked by hand, of a device with outputs 300 of 2 bytes and 151 of 1 byte, and input 70000 of 2 bytes.
use Rattle.std.specs.Prelude.{ℕ, ◌≡◌, List, [], ◌∷◌, ◌++◌, map, codes, Option, Some, None, true, false, refl}
use Rattle.std.specs.Fmt.{digits}
use Rattle.std.specs.List.{filter_map}
use Rattle.adapter_table.specs.declared.profile.Description.{Description}
use Rattle.adapter_table.specs.declared.maker_limits.MakerLimits.{MakerLimits}
use Rattle.adapter_table.specs.declared.profile.Profile.{Profile}
use Rattle.adapter_table.specs.Objects.{Attribute, ClassFacts, class_instance, interface_instance, link_instance, link_label, qos_instance}
use Rattle.adapter_table.specs.Profiles.{no_limits}
use Rattle.adapter_table.specs.declared.profile.Action.TheVariants.{Zero}
use Rattle.cip_productions.specs.declared.kind.Kind.TheVariants.{ExclusiveOwner, InputOnly, ListenOnly}
use Rattle.cip_epath.specs.Written.{path_text}
use Rattle.eds_text.specs.declared.connections.SheetConnection.{SheetConnection}
use Rattle.eds_text.specs.Classes.{classes_text, interface_text, link_text, qos_text}
use Rattle.eds_text.specs.Connections.{connections_of}
use Rattle.eds_text.specs.Device.{name_line}
use Rattle.eds_text.specs.Manager.{kind_lines, o_t_line, sheet_path}
use Rattle.eds_text.specs.Offer.{capacity_of, offered_intervals, words_of}
use Rattle.eds_text.specs.Points.{member_text, members_text}
use Rattle.eds_text.specs.Names.{is_name, is_name_byte, product_name}

island : Profile
island = record {
  incarnation = 16;
  node = record { 0 = 0xC0A8010A };
  mask = 0xFFFFFF00;
  identity = record { vendor = 0; device_type = 43; product = 1; major = 1; minor = 1 };
  outputs = record { instance = 300; len = 2; idle = Zero; fault = Zero } ∷ record { instance = 151; len = 1; idle = Zero; fault = Zero } ∷ [];
  inputs = record { instance = 70000; len = 2 } ∷ [];
  config = None;
  input_only = 152;
  listen_only = 153;
  description = None;
  limits = no_limits;
  objects = [];
  ids = None;
}

owner : SheetConnection
owner = record { kind = ExclusiveOwner; changes = true; consumed = 300; o_t_len = 2; produced = 70000; t_o_len = 2 }

reader : SheetConnection
reader = record { kind = InputOnly; changes = true; consumed = 152; o_t_len = 0; produced = 70000; t_o_len = 2 }

all_connections : connections_of island ≡
    owner
    ∷ record { kind = ExclusiveOwner; changes = true; consumed = 151; o_t_len = 1; produced = 70000; t_o_len = 2 }
    ∷ reader
    ∷ record { kind = ListenOnly; changes = true; consumed = 153; o_t_len = 0; produced = 70000; t_o_len = 2 }
    ∷ []
unfolding island owner reader
all_connections = refl

path_of_long_numbers : path_text (sheet_path None owner) ≡
    0x20 ∷ 0x04 ∷ 0x2D ∷ 0x00 ∷ 0x2C ∷ 0x01 ∷ 0x2E ∷ 0x00 ∷ 0x70 ∷ 0x11 ∷ 0x01 ∷ 0x00 ∷ []
unfolding owner
path_of_long_numbers = refl

path_with_a_configuration : path_text (sheet_path (Some (record { instance = 151; len = 0 })) reader) ≡
    0x20 ∷ 0x04 ∷ 0x24 ∷ 0x97 ∷ 0x2C ∷ 0x98 ∷ 0x2E ∷ 0x00 ∷ 0x70 ∷ 0x11 ∷ 0x01 ∷ 0x00 ∷ []
unfolding reader
path_with_a_configuration = refl

a_heartbeat : o_t_line reader ≡ codes "                Param1,0,,\n"
unfolding o_t_line reader
a_heartbeat = refl

a_name : name_line (codes "VendName") (codes "Vendor") 4660 (Some (codes "Maker & Co")) ≡ codes "        VendName = \"Maker & Co\";\n"
unfolding name_line
a_name = refl

a_quote_is_in_no_name : is_name (codes "A\"B") ≡ false
unfolding is_name is_name_byte
a_quote_is_in_no_name = refl

a_line_end_is_in_no_name : is_name (codes "A\nB") ≡ false
unfolding is_name is_name_byte
a_line_end_is_in_no_name = refl

words_are_a_name : is_name (codes "Valve island, 3 points") ≡ true
unfolding is_name is_name_byte
words_are_a_name = refl

-- the name of a description is that of the product, unless another one is given, or it has a quote or no byte
abbrev described : List ℕ → Option Description
described name = Some (record { serial = 1; name = name; port = 44818; speed = 100; flags = 15; mac = 2 ∷ 0 ∷ 94 ∷ 16 ∷ 0 ∷ 7 ∷ []; inactivity = 120 })

the_described_name : product_name None (described (codes "Rack 7")) ≡ Some (codes "Rack 7")
unfolding is_name is_name_byte
the_described_name = refl

the_given_name : product_name (Some (codes "Island")) (described (codes "Rack 7")) ≡ Some (codes "Island")
the_given_name = refl

no_described_name : product_name None (described (codes "Rack \"7\"")) ≡ None
unfolding is_name is_name_byte
no_described_name = refl

an_empty_name : product_name None (described []) ≡ None
unfolding is_name is_name_byte
an_empty_name = refl

-- WHAT THE MAKER STATES

-- no interval below 20 ms, no owner, four input-only and two listen-only connections, and numbers that are not far ahead
abbrev slow : MakerLimits
slow = record no_limits { least_rpi = Some 20000; places = Some (record { owners = 0; readers = 4; listeners = 2; class3_connections = None }); newer = Some 1000 }

intervals_by_the_maker : map (λ limits. offered_intervals (record island { limits = limits })) (no_limits ∷ slow ∷ record no_limits { least_rpi = Some 500 } ∷ record no_limits { least_rpi = Some 9000 } ∷ record no_limits { least_rpi = Some 1500 } ∷ [])
    ≡ record { least = 1000; most = 10000000; first = 10000 }
    ∷ record { least = 20000; most = 10000000; first = 20000 }
    ∷ record { least = 1000; most = 10000000; first = 10000 }
    ∷ record { least = 9000; most = 10000000; first = 10000 }
    ∷ record { least = 1500; most = 10000000; first = 10000 }
    ∷ []
unfolding island
intervals_by_the_maker = refl

-- a described device takes 1,999 us for 1,000, so that from a least of 1,500 on it admits 2,000
intervals_of_a_described_device : map (λ limits. offered_intervals (record island { description = described (codes "Rack 7"); limits = limits })) (no_limits ∷ record no_limits { least_rpi = Some 500 } ∷ record no_limits { least_rpi = Some 1500 } ∷ record no_limits { least_rpi = Some 10001 } ∷ record no_limits { least_rpi = Some 10000000 } ∷ [])
    ≡ record { least = 1000; most = 10000000; first = 10000 }
    ∷ record { least = 1000; most = 10000000; first = 10000 }
    ∷ record { least = 2000; most = 10000000; first = 10000 }
    ∷ record { least = 11000; most = 10000000; first = 11000 }
    ∷ record { least = 10000000; most = 10000000; first = 10000000 }
    ∷ []
unfolding island
intervals_of_a_described_device = refl

-- .. which is 500 datagrams of a second
the_rate_of_a_described_device : (capacity_of (record island { description = described (codes "Rack 7"); limits = record no_limits { least_rpi = Some 1500 } })).rate ≡ 500
unfolding island
the_rate_of_a_described_device = refl

-- the words of a configuration
configuration_words : (d : Description) → words_of (Some d) (Some (record { instance = 151; len = 6 })) ∷ words_of (Some d) None ∷ words_of None (Some (record { instance = 151; len = 6 })) ∷ [] ≡ 3 ∷ 0 ∷ 0 ∷ []
configuration_words d = refl

two_members : members_text 0 2 ∷ members_text 0 0 ∷ [] ≡ codes "                16,Param2,\n                16,Param3;\n" ∷ codes "                ,;\n" ∷ []
unfolding member_text digits
two_members = refl

capacity_by_the_maker : map (λ limits. capacity_of (record island { limits = limits })) (no_limits ∷ slow ∷ record no_limits { least_rpi = Some 30000 } ∷ [])
    ≡ record { rate = 1000; connections = 64; producers = 1; messages = 64 }
    ∷ record { rate = 50; connections = 6; producers = 1; messages = 64 }
    ∷ record { rate = 34; connections = 64; producers = 1; messages = 64 }
    ∷ []
unfolding island
capacity_by_the_maker = refl

-- .. and no connection of class 3, or 5
message_places : map (λ limits. (capacity_of (record island { limits = limits })).messages)
    (record no_limits { places = Some (record { owners = 1; readers = 4; listeners = 2; class3_connections = Some 0 }) }
    ∷ record no_limits { places = Some (record { owners = 1; readers = 4; listeners = 2; class3_connections = Some 5 }) } ∷ [])
    ≡ 0 ∷ 5 ∷ []
unfolding island
message_places = refl

no_owner_has_a_place : connections_of (record island { limits = slow }) ≡
    record { kind = InputOnly; changes = false; consumed = 152; o_t_len = 0; produced = 70000; t_o_len = 2 }
    ∷ record { kind = ListenOnly; changes = false; consumed = 153; o_t_len = 0; produced = 70000; t_o_len = 2 }
    ∷ []
unfolding island
no_owner_has_a_place = refl

-- a listen-only connection of both triggers, and an input-only one that is cyclic alone
words_of_bits : kind_lines true ListenOnly ∷ kind_lines false InputOnly ∷ []
    ≡ codes "                0x01030002,\n                0x44240305,\n" ∷ codes "                0x02010002,\n                0x44640305,\n" ∷ []
unfolding kind_lines
words_of_bits = refl

-- THE CLASSES

-- the attributes of an instance, by their numbers
abbrev numbers_of : List Attribute → List ℕ
numbers_of attributes = filter_map (λ (attribute : Attribute). attribute.number) attributes

-- those that the sections of the classes have
the_attributes_of_the_sections :
    (d : Description) →
    numbers_of (interface_instance island d).attributes ∷ numbers_of (link_instance d []).attributes ∷ numbers_of qos_instance.attributes ∷ []
    ≡ (1 ∷ 2 ∷ 3 ∷ 4 ∷ 5 ∷ 6 ∷ 8 ∷ 9 ∷ 10 ∷ 11 ∷ 13 ∷ []) ∷ (1 ∷ 2 ∷ 3 ∷ 4 ∷ 5 ∷ 6 ∷ 7 ∷ 8 ∷ 9 ∷ 10 ∷ 11 ∷ []) ∷ (1 ∷ 2 ∷ 3 ∷ 4 ∷ 5 ∷ 6 ∷ 7 ∷ 8 ∷ []) ∷ []
the_attributes_of_the_sections d = refl

the_attributes_of_a_class : (facts : ClassFacts) → numbers_of (class_instance 1 1 1 facts).attributes ≡ 1 ∷ 2 ∷ 3 ∷ 4 ∷ 5 ∷ 6 ∷ 7 ∷ []
the_attributes_of_a_class facts = refl

the_label : link_label ≡ codes "Ethernet"
the_label = refl

-- a device without a description has none of these classes, and one whose maker has the class of QoS has its own
no_sections : classes_text island ≡ []
unfolding island
no_sections = refl

the_makers_own_qos : (d : Description) → classes_text (record island { description = Some d; objects = 0x48 ∷ [] }) ≡ interface_text ++ (link_text d ++ [])
unfolding island qos_text
the_makers_own_qos d = refl
