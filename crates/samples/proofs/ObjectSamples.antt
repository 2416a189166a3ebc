-- The objects of a described adapter, byte for byte: their attributes, the status word, and each refusal in its order (Volume 1,
-- chapter 5, object library, and appendix A, common services; Volume 2, chapter 5, TCP/IP Interface and Ethernet Link).
use Rattle.std.proofs.Common.{◌≡◌, refl, ℕ, List, [], ◌∷◌, ◌++◌, map, replicate, Some}
use Rattle.cip_events.specs.declared.event.Event.{Event}
use Rattle.cip_events.specs.declared.event.Event.TheVariants.{Datagram, Request, Tick}
use Rattle.cip_events.specs.declared.event.Notice.TheVariants.{Reset}
use Rattle.cip_events.specs.Outcomes.{Outcome}
use Rattle.adapter_table.specs.declared.profile.Profile.{Profile}
use Rattle.cip_tables.specs.Run.{outcomes_of, table_after}
use Rattle.samples.specs.Hex.{hex}
use Rattle.samples.specs.Devices.{common, fresh, input, peer}
use Rattle.samples.specs.Described.{pump, described}
use Rattle.samples.specs.Requests.{OpeningRequest, owner, consumer, followed}
use Rattle.samples.specs.Datagrams.{datagram, running, idling}
use Rattle.samples.specs.Runs.{said, after, opens, closes, replies}
use Rattle.samples.specs.Computing.{computing}

abbrev asks : List ℕ → Event
asks bytes = Request peer bytes

abbrev gets : List ℕ → Outcome
gets bytes = replies peer bytes []

-- the replies of a described adapter without connections
abbrev answers : List (List ℕ) → List Outcome
answers requests = said described (map asks requests)

-- .. and its reply after some events
abbrev answer_after : List Event → List ℕ → List Outcome
answer_after events request = outcomes_of (after described events) (asks request ∷ [])

-- ---- the Identity object

-- vendor 1, device type 12, product 7, revision 2.3, status, serial number, and the name behind its length; the state is left out
identity_attributes_all : answers (hex "01 02 20 01 24 01" ∷ []) ≡ gets (hex "81 00 00 00 01 00 0C 00 07 00 02 03 30 00 78 56 34 12 04 50 75 6D 70") ∷ []
unfolding computing
identity_attributes_all = refl

vendor_type_and_product :
    answers (hex "0E 03 20 01 24 01 30 01" ∷ hex "0E 03 20 01 24 01 30 02" ∷ hex "0E 03 20 01 24 01 30 03" ∷ [])
    ≡ gets (hex "8E 00 00 00 01 00") ∷ gets (hex "8E 00 00 00 0C 00") ∷ gets (hex "8E 00 00 00 07 00") ∷ []
unfolding computing
vendor_type_and_product = refl

revision_and_status :
    answers (hex "0E 03 20 01 24 01 30 04" ∷ hex "0E 03 20 01 24 01 30 05" ∷ [])
    ≡ gets (hex "8E 00 00 00 02 03") ∷ gets (hex "8E 00 00 00 30 00") ∷ []
unfolding computing
revision_and_status = refl

serial_number_and_name :
    answers (hex "0E 03 20 01 24 01 30 06" ∷ hex "0E 03 20 01 24 01 30 07" ∷ [])
    ≡ gets (hex "8E 00 00 00 78 56 34 12") ∷ gets (hex "8E 00 00 00 04 50 75 6D 70") ∷ []
unfolding computing
serial_number_and_name = refl

state_operational : answers (hex "0E 03 20 01 24 01 30 08" ∷ []) ≡ gets (hex "8E 00 00 00 03") ∷ []
unfolding computing
state_operational = refl

abbrev nameless : Profile
nameless = record common { description = Some (record pump { serial = 0; name = [] }) }

a_name_of_no_byte :
    said nameless (asks (hex "01 02 20 01 24 01") ∷ asks (hex "0E 03 20 01 24 01 30 07") ∷ [])
    ≡ gets (hex "81 00 00 00 01 00 0C 00 07 00 02 03 30 00 00 00 00 00 00") ∷ gets (hex "8E 00 00 00 00") ∷ []
unfolding computing
a_name_of_no_byte = refl

-- ---- the TCP/IP Interface object

-- status, capability, control, the path of the link, 192.168.1.10 and its mask, no gateway, no name servers, no domain and no host
-- name, no safety network, time to live 1, one group from 239.192.2.32 on, no conflict detection and none seen, no quick connection,
-- two minutes
interface_attributes_all :
    answers (hex "01 02 20 F5 24 01" ∷ [])
    ≡ gets (hex "81 00 00 00 01 00 00 00 00 00 00 00 00 00 00 00 02 00 20 F6 24 01 0A 01 A8 C0 00 FF FF FF 00 00 00 00 00 00 00 00 00 00 00 00 00 00 00 00"
    ++ (replicate 6 0 ++ (hex "01 00 00 01 00 20 02 C0 EF 00" ++ (replicate 35 0 ++ hex "00 78 00")))) ∷ []
unfolding computing
interface_attributes_all = refl

interface_status_capability_and_control :
    answers (hex "0E 03 20 F5 24 01 30 01" ∷ hex "0E 03 20 F5 24 01 30 02" ∷ hex "0E 03 20 F5 24 01 30 03" ∷ [])
    ≡ gets (hex "8E 00 00 00 01 00 00 00") ∷ gets (hex "8E 00 00 00 00 00 00 00") ∷ gets (hex "8E 00 00 00 00 00 00 00") ∷ []
unfolding computing
interface_status_capability_and_control = refl

-- two words: class F6, instance 1
interface_link : answers (hex "0E 03 20 F5 24 01 30 04" ∷ []) ≡ gets (hex "8E 00 00 00 02 00 20 F6 24 01") ∷ []
unfolding computing
interface_link = refl

interface_addresses : answers (hex "0E 03 20 F5 24 01 30 05" ∷ []) ≡ gets (hex "8E 00 00 00 0A 01 A8 C0 00 FF FF FF 00 00 00 00 00 00 00 00 00 00 00 00 00 00") ∷ []
unfolding computing
interface_addresses = refl

interface_host_name_and_inactivity :
    answers (hex "0E 03 20 F5 24 01 30 06" ∷ hex "0E 03 20 F5 24 01 30 0D" ∷ [])
    ≡ gets (hex "8E 00 00 00 00 00") ∷ gets (hex "8E 00 00 00 78 00") ∷ []
unfolding computing
interface_host_name_and_inactivity = refl

-- ---- the Ethernet Link object

-- speed, flags, physical address, counters of nothing, a control that negotiates, twisted pair, enabled, the label, and the one speed
abbrev whole_link : List Outcome
whole_link =
    gets (hex "81 00 00 00 64 00 00 00 0F 00 00 00 02 00 5E 10 00 07" ++ (replicate 92 0 ++ hex "01 00 00 00 02 01 01 08 45 74 68 65 72 6E 65 74 02 00 00 00 01 64 00 01")) ∷ []

link_attributes_all : answers (hex "01 02 20 F6 24 01" ∷ []) ≡ whole_link
unfolding computing
link_attributes_all = refl

link_speed_flags_and_address :
    answers (hex "0E 03 20 F6 24 01 30 01" ∷ hex "0E 03 20 F6 24 01 30 02" ∷ hex "0E 03 20 F6 24 01 30 03" ∷ [])
    ≡ gets (hex "8E 00 00 00 64 00 00 00") ∷ gets (hex "8E 00 00 00 0F 00 00 00") ∷ gets (hex "8E 00 00 00 02 00 5E 10 00 07") ∷ []
unfolding computing
link_speed_flags_and_address = refl

-- ---- assemblies

-- the output 150 and the input 100 have 4 bytes, the configuration 151 has 2
assembly_sizes :
    answers (hex "0E 03 20 04 24 96 30 04" ∷ hex "0E 03 20 04 24 64 30 04" ∷ hex "0E 03 20 04 24 97 30 04" ∷ [])
    ≡ gets (hex "8E 00 00 00 04 00") ∷ gets (hex "8E 00 00 00 04 00") ∷ gets (hex "8E 00 00 00 02 00") ∷ []
unfolding computing
assembly_sizes = refl

assembly_data :
    answers (hex "0E 03 20 04 24 96 30 03" ∷ hex "0E 03 20 04 24 97 30 03" ∷ [])
    ≡ gets (hex "8E 00 00 00 00 00 00 00") ∷ gets (hex "8E 00 00 00 00 00") ∷ []
unfolding computing
assembly_data = refl

heartbeats_have_no_data :
    answers (hex "0E 03 20 04 24 98 30 03" ∷ hex "0E 03 20 04 24 99 30 04" ∷ [])
    ≡ gets (hex "8E 00 00 00") ∷ gets (hex "8E 00 00 00 00 00") ∷ []
unfolding computing
heartbeats_have_no_data = refl

-- ---- class attributes: revision, largest instance, number of instances, optional attributes

class_of_identity :
    answers (hex "0E 03 20 01 24 00 30 01" ∷ hex "0E 03 20 01 24 00 30 02" ∷ hex "0E 03 20 01 24 00 30 03" ∷ hex "0E 03 20 01 24 00 30 04" ∷ [])
    ≡ gets (hex "8E 00 00 00 01 00") ∷ gets (hex "8E 00 00 00 01 00") ∷ gets (hex "8E 00 00 00 01 00") ∷ gets (hex "8E 00 00 00 02 00 08 00 09 00") ∷ []
unfolding computing
class_of_identity = refl

class_of_the_message_router :
    answers (hex "0E 03 20 02 24 00 30 01" ∷ hex "0E 03 20 02 24 00 30 02" ∷ hex "0E 03 20 02 24 00 30 03" ∷ hex "0E 03 20 02 24 00 30 04" ∷ [])
    ≡ gets (hex "8E 00 00 00 01 00") ∷ gets (hex "8E 00 00 00 01 00") ∷ gets (hex "8E 00 00 00 01 00") ∷ gets (hex "8E 00 00 00 03 00 01 00 02 00 03 00") ∷ []
unfolding computing
class_of_the_message_router = refl

-- of 150, 100, 151, and the heartbeats 152 and 153
class_of_assemblies :
    answers (hex "0E 03 20 04 24 00 30 01" ∷ hex "0E 03 20 04 24 00 30 02" ∷ hex "0E 03 20 04 24 00 30 03" ∷ hex "0E 03 20 04 24 00 30 04" ∷ [])
    ≡ gets (hex "8E 00 00 00 02 00") ∷ gets (hex "8E 00 00 00 99 00") ∷ gets (hex "8E 00 00 00 05 00") ∷ gets (hex "8E 00 00 00 01 00 04 00") ∷ []
unfolding computing
class_of_assemblies = refl

class_of_the_connection_manager :
    answers (hex "0E 03 20 06 24 00 30 01" ∷ hex "0E 03 20 06 24 00 30 02" ∷ hex "0E 03 20 06 24 00 30 03" ∷ hex "0E 03 20 06 24 00 30 04" ∷ [])
    ≡ gets (hex "8E 00 00 00 01 00") ∷ gets (hex "8E 00 00 00 01 00") ∷ gets (hex "8E 00 00 00 01 00")
    ∷ gets (hex "8E 00 00 00 08 00 01 00 02 00 03 00 04 00 05 00 06 00 07 00 08 00") ∷ []
unfolding computing
class_of_the_connection_manager = refl

class_of_the_interface :
    answers (hex "0E 03 20 F5 24 00 30 01" ∷ hex "0E 03 20 F5 24 00 30 02" ∷ hex "0E 03 20 F5 24 00 30 03" ∷ hex "0E 03 20 F5 24 00 30 04" ∷ [])
    ≡ gets (hex "8E 00 00 00 04 00") ∷ gets (hex "8E 00 00 00 01 00") ∷ gets (hex "8E 00 00 00 01 00") ∷ gets (hex "8E 00 00 00 04 00 08 00 09 00 0A 00 0B 00") ∷ []
unfolding computing
class_of_the_interface = refl

class_of_the_link :
    answers (hex "0E 03 20 F6 24 00 30 01" ∷ hex "0E 03 20 F6 24 00 30 02" ∷ hex "0E 03 20 F6 24 00 30 03" ∷ hex "0E 03 20 F6 24 00 30 04" ∷ [])
    ≡ gets (hex "8E 00 00 00 04 00") ∷ gets (hex "8E 00 00 00 01 00") ∷ gets (hex "8E 00 00 00 01 00") ∷ gets (hex "8E 00 00 00 07 00 04 00 05 00 06 00 07 00 08 00 09 00 0A 00") ∷ []
unfolding computing
class_of_the_link = refl

-- an input whose instance has more than two bytes
abbrev large_instance : Profile
large_instance = record described { inputs = input 0x12345 4 ∷ [] }

a_largest_instance_of_two_bytes : said large_instance (asks (hex "0E 03 20 04 24 00 30 02") ∷ []) ≡ gets (hex "8E 00 00 00 FF FF") ∷ []
unfolding computing
a_largest_instance_of_two_bytes = refl

-- ---- the status word

abbrev runs : Event
runs = Datagram peer (datagram 0x10000001 1 1 (running (hex "11 22 33 44")))

abbrev idles : Event
idles = Datagram peer (datagram 0x10000001 1 1 (idling (hex "11 22 33 44")))

-- the owner with configuration data
abbrev configuring : OpeningRequest
configuring = followed (hex "80 01 AA BB") owner

-- a heartbeat of the second connection
abbrev heartbeat : Event
heartbeat = Datagram peer (datagram 0x10000002 1 1 [])

-- attribute 5 after some events
abbrev status_after : List Event → List Outcome
status_after events = answer_after events (hex "0E 03 20 01 24 01 30 05")

abbrev is : List ℕ → List Outcome
is bytes = gets (hex "8E 00 00 00" ++ bytes) ∷ []

nothing_is_established : status_after [] ≡ is (hex "30 00")
unfolding computing
nothing_is_established = refl

an_owner_without_data : status_after (opens owner ∷ []) ≡ is (hex "71 00")
unfolding computing
an_owner_without_data = refl

an_owner_in_run_mode : status_after (opens owner ∷ runs ∷ []) ≡ is (hex "61 00")
unfolding computing
an_owner_in_run_mode = refl

an_owner_in_idle_mode : status_after (opens owner ∷ idles ∷ []) ≡ is (hex "71 00")
unfolding computing
an_owner_in_idle_mode = refl

timed_out_alone : status_after (opens owner ∷ runs ∷ Tick 160 ∷ []) ≡ is (hex "20 00")
unfolding computing
timed_out_alone = refl

a_millisecond_before : status_after (opens owner ∷ runs ∷ Tick 159 ∷ []) ≡ is (hex "61 00")
unfolding computing
a_millisecond_before = refl

a_closed_owner : status_after (opens owner ∷ runs ∷ closes peer owner ∷ []) ≡ is (hex "30 00")
unfolding computing
a_closed_owner = refl

-- a heartbeat has no mode
input_only_owns_nothing : status_after (opens (consumer 7) ∷ []) ≡ is (hex "70 00")
unfolding computing
input_only_owns_nothing = refl

a_heartbeat_does_not_run : status_after (opens owner ∷ opens (consumer 7) ∷ heartbeat ∷ []) ≡ is (hex "71 00")
unfolding computing
a_heartbeat_does_not_run = refl

one_in_run_mode_is_enough : status_after (opens owner ∷ opens (consumer 7) ∷ heartbeat ∷ runs ∷ []) ≡ is (hex "61 00")
unfolding computing
one_in_run_mode_is_enough = refl

-- the owner has timed out, the other not yet
an_established_one_before_a_timed_out_one : status_after (opens owner ∷ opens (consumer 7) ∷ runs ∷ Tick 160 ∷ []) ≡ is (hex "70 00")
unfolding computing
an_established_one_before_a_timed_out_one = refl

-- the configuration stays when its owner closes
configured_and_closed : status_after (opens configuring ∷ closes peer configuring ∷ []) ≡ is (hex "34 00")
unfolding computing
configured_and_closed = refl

configured_and_owned : status_after (opens configuring ∷ runs ∷ []) ≡ is (hex "65 00")
unfolding computing
configured_and_owned = refl

configured_and_idle : status_after (opens configuring ∷ idles ∷ []) ≡ is (hex "75 00")
unfolding computing
configured_and_idle = refl

-- zeros are no configuration
configured_with_zeros : status_after (opens (followed (hex "80 01 00 00") owner) ∷ closes peer owner ∷ []) ≡ is (hex "30 00")
unfolding computing
configured_with_zeros = refl

the_whole_has_the_same_status :
    answer_after (opens owner ∷ runs ∷ []) (hex "01 02 20 01 24 01")
    ≡ gets (hex "81 00 00 00 01 00 0C 00 07 00 02 03 61 00 78 56 34 12 04 50 75 6D 70") ∷ []
unfolding computing
the_whole_has_the_same_status = refl

-- ---- refusals, in their order

-- or the instance is
class_unknown :
    answers (hex "0E 03 20 03 24 01 30 01" ∷ hex "01 02 20 47 24 01" ∷ hex "0E 03 20 F5 24 02 30 01" ∷ [])
    ≡ gets (hex "8E 00 05 00") ∷ gets (hex "81 00 05 00") ∷ gets (hex "8E 00 05 00") ∷ []
unfolding computing
class_unknown = refl

instance_unknown :
    answers (hex "0E 03 20 01 24 02 30 01" ∷ hex "0E 03 20 02 24 02 30 01" ∷ hex "0E 03 20 04 24 46 30 03" ∷ hex "01 02 20 06 24 02" ∷ hex "0E 03 20 F6 24 02 30 01" ∷ [])
    ≡ gets (hex "8E 00 05 00") ∷ gets (hex "8E 00 05 00") ∷ gets (hex "8E 00 05 00") ∷ gets (hex "81 00 05 00") ∷ gets (hex "8E 00 05 00") ∷ []
unfolding computing
instance_unknown = refl

the_instance_before_the_service :
    answers (hex "4B 03 20 01 24 02 30 01" ∷ hex "05 02 20 F5 24 02" ∷ hex "10 03 20 04 24 46 30 63 00" ∷ [])
    ≡ gets (hex "CB 00 05 00") ∷ gets (hex "85 00 05 00") ∷ gets (hex "90 00 05 00") ∷ []
unfolding computing
the_instance_before_the_service = refl

service_unknown :
    answers (hex "4B 02 20 01 24 01" ∷ hex "02 02 20 F5 24 01" ∷ hex "05 02 20 F5 24 01" ∷ hex "05 02 20 F6 24 01" ∷ hex "05 02 20 02 24 01" ∷ hex "05 02 20 04 24 96" ∷ [])
    ≡ gets (hex "CB 00 08 00") ∷ gets (hex "82 00 08 00") ∷ gets (hex "85 00 08 00") ∷ gets (hex "85 00 08 00") ∷ gets (hex "85 00 08 00") ∷ gets (hex "85 00 08 00") ∷ []
unfolding computing
service_unknown = refl

-- Get_Attributes_All is of Identity, TCP/IP Interface and Ethernet Link alone
not_all_of_each_object :
    answers (hex "01 02 20 02 24 01" ∷ hex "01 02 20 04 24 96" ∷ hex "01 02 20 06 24 01" ∷ [])
    ≡ gets (hex "81 00 08 00") ∷ gets (hex "81 00 08 00") ∷ gets (hex "81 00 08 00") ∷ []
unfolding computing
not_all_of_each_object = refl

nor_of_a_class :
    answers (hex "01 02 20 01 24 00" ∷ hex "05 02 20 01 24 00" ∷ hex "01 02 20 F5 24 00" ∷ [])
    ≡ gets (hex "81 00 08 00") ∷ gets (hex "85 00 08 00") ∷ gets (hex "81 00 08 00") ∷ []
unfolding computing
nor_of_a_class = refl

-- .. and before the data
the_service_before_the_attribute :
    answers (hex "4B 03 20 01 24 01 30 63" ∷ hex "4B 02 20 F6 24 01 00" ∷ [])
    ≡ gets (hex "CB 00 08 00") ∷ gets (hex "CB 00 08 00") ∷ []
unfolding computing
the_service_before_the_attribute = refl

attribute_unknown :
    answers (hex "0E 03 20 01 24 01 30 0A" ∷ hex "0E 03 20 02 24 01 30 04" ∷ hex "0E 03 20 04 24 96 30 05" ∷ hex "0E 03 20 F5 24 01 30 07" ∷ hex "0E 03 20 F6 24 01 30 0C" ∷ [])
    ≡ gets (hex "8E 00 14 00") ∷ gets (hex "8E 00 14 00") ∷ gets (hex "8E 00 14 00") ∷ gets (hex "8E 00 14 00") ∷ gets (hex "8E 00 14 00") ∷ []
unfolding computing
attribute_unknown = refl

no_attribute_is_named :
    answers (hex "0E 02 20 01 24 01" ∷ hex "10 02 20 01 24 01" ∷ hex "0E 02 20 04 24 00" ∷ [])
    ≡ gets (hex "8E 00 14 00") ∷ gets (hex "90 00 14 00") ∷ gets (hex "8E 00 14 00") ∷ []
unfolding computing
no_attribute_is_named = refl

-- .. and before the setting
the_attribute_before_the_data :
    answers (hex "0E 03 20 01 24 01 30 0A 00" ∷ hex "10 03 20 01 24 01 30 63 41" ∷ [])
    ≡ gets (hex "8E 00 14 00") ∷ gets (hex "90 00 14 00") ∷ []
unfolding computing
the_attribute_before_the_data = refl

each_attribute_can_only_be_read :
    answers (hex "10 03 20 01 24 01 30 07 01 41" ∷ hex "10 03 20 F5 24 01 30 0D 3C 00" ∷ hex "10 03 20 F6 24 01 30 03" ∷ hex "10 03 20 04 24 64 30 03 01 02 03 04" ∷ hex "10 03 20 04 24 96 30 04 04 00" ∷ hex "10 03 20 01 24 00 30 01 02 00" ∷ [])
    ≡ gets (hex "90 00 0E 00") ∷ gets (hex "90 00 0E 00") ∷ gets (hex "90 00 0E 00") ∷ gets (hex "90 00 0E 00") ∷ gets (hex "90 00 0E 00") ∷ gets (hex "90 00 0E 00") ∷ []
unfolding computing
each_attribute_can_only_be_read = refl

too_much_data :
    answers (hex "0E 03 20 01 24 01 30 01 00" ∷ hex "01 02 20 01 24 01 00" ∷ hex "01 02 20 F5 24 01 00 00" ∷ hex "05 02 20 01 24 01 00 00" ∷ hex "0E 03 20 F6 24 00 30 01 00" ∷ [])
    ≡ gets (hex "8E 00 15 00") ∷ gets (hex "81 00 15 00") ∷ gets (hex "81 00 15 00") ∷ gets (hex "85 00 15 00") ∷ gets (hex "8E 00 15 00") ∷ []
unfolding computing
too_much_data = refl

an_attribute_is_not_looked_at_by_other_services : answers (hex "01 03 20 F6 24 01 30 63" ∷ []) ≡ whole_link
unfolding computing
an_attribute_is_not_looked_at_by_other_services = refl

-- ---- Reset

-- without data it is of type 0
a_power_cycle :
    said described (asks (hex "05 02 20 01 24 01") ∷ asks (hex "05 02 20 01 24 01 00") ∷ [])
    ≡ replies peer (hex "85 00 00 00") (Reset 0 ∷ []) ∷ replies peer (hex "85 00 00 00") (Reset 0 ∷ []) ∷ []
unfolding computing
a_power_cycle = refl

the_settings_of_the_factory : said described (asks (hex "05 02 20 01 24 01 01") ∷ []) ≡ replies peer (hex "85 00 00 00") (Reset 1 ∷ []) ∷ []
unfolding computing
the_settings_of_the_factory = refl

no_other_type :
    answers (hex "05 02 20 01 24 01 02" ∷ hex "05 02 20 01 24 01 FF" ∷ [])
    ≡ gets (hex "85 00 20 00") ∷ gets (hex "85 00 20 00") ∷ []
unfolding computing
no_other_type = refl

not_while_an_output_is_owned : answer_after (opens owner ∷ []) (hex "05 02 20 01 24 01") ≡ gets (hex "85 00 10 00") ∷ []
unfolding computing
not_while_an_output_is_owned = refl

the_type_before_the_owner : answer_after (opens owner ∷ runs ∷ []) (hex "05 02 20 01 24 01 02") ≡ gets (hex "85 00 20 00") ∷ []
unfolding computing
the_type_before_the_owner = refl

the_data_before_both : answer_after (opens owner ∷ []) (hex "05 02 20 01 24 01 02 00") ≡ gets (hex "85 00 15 00") ∷ []
unfolding computing
the_data_before_both = refl

while_one_only_reads : answer_after (opens (consumer 7) ∷ []) (hex "05 02 20 01 24 01") ≡ replies peer (hex "85 00 00 00") (Reset 0 ∷ []) ∷ []
unfolding computing
while_one_only_reads = refl

after_the_owner_timed_out : answer_after (opens owner ∷ runs ∷ Tick 160 ∷ []) (hex "05 02 20 01 24 01") ≡ replies peer (hex "85 00 00 00") (Reset 0 ∷ []) ∷ []
unfolding computing
after_the_owner_timed_out = refl

-- ---- nothing changes

-- nor does a reset: the caller makes a new device
reading_and_refusing_change_nothing :
    table_after (fresh described) (map asks (hex "01 02 20 01 24 01" ∷ hex "0E 03 20 04 24 96 30 04" ∷ hex "10 03 20 04 24 64 30 03 01 02 03 04" ∷ hex "05 02 20 01 24 01 01" ∷ hex "0E 03 20 07 24 01 30 01" ∷ []))
    ≡ fresh described
unfolding computing
reading_and_refusing_change_nothing = refl

-- ---- an adapter without a description

abbrev plain : List (List ℕ) → List Outcome
plain requests = said common (map asks requests)

it_has_no_other_objects :
    plain (hex "0E 03 20 01 24 01 30 01" ∷ hex "01 02 20 01 24 01" ∷ hex "05 02 20 01 24 01" ∷ hex "0E 03 20 02 24 01 30 01" ∷ hex "0E 03 20 F5 24 01 30 05" ∷ hex "01 02 20 F6 24 01" ∷ [])
    ≡ gets (hex "8E 00 05 00") ∷ gets (hex "81 00 05 00") ∷ gets (hex "85 00 05 00") ∷ gets (hex "8E 00 05 00") ∷ gets (hex "8E 00 05 00") ∷ gets (hex "81 00 05 00") ∷ []
unfolding computing
it_has_no_other_objects = refl

nor_a_class :
    plain (hex "0E 03 20 01 24 00 30 01" ∷ hex "0E 03 20 04 24 00 30 01" ∷ hex "0E 03 20 06 24 00 30 01" ∷ [])
    ≡ gets (hex "8E 00 05 00") ∷ gets (hex "8E 00 05 00") ∷ gets (hex "8E 00 05 00") ∷ []
unfolding computing
nor_a_class = refl

its_assemblies_have_data_alone :
    plain (hex "0E 03 20 04 24 96 30 03" ∷ hex "0E 03 20 04 24 96 30 04" ∷ hex "10 03 20 04 24 96 30 03 00 00 00 00" ∷ [])
    ≡ gets (hex "8E 00 00 00 00 00 00 00") ∷ gets (hex "8E 00 14 00") ∷ gets (hex "90 00 08 00") ∷ []
unfolding computing
its_assemblies_have_data_alone = refl
