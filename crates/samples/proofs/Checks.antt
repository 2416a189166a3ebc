-- Samples of the checks of a request to open: each by itself, and the first of two.
use Rattle.std.proofs.Common.{◌≡◌, refl, ℕ, List, [], ◌∷◌, None, Err}
use Rattle.cip_events.specs.declared.event.Event.TheVariants.{Read, Tick}
use Rattle.cip_events.specs.declared.event.StepFault.TheVariants.{NoSuchPoint}
use Rattle.adapter_table.specs.declared.profile.Profile.{Profile}
use Rattle.cip_events.specs.Outcomes.{Outcome}
use Rattle.cip_tables.specs.Run.{outcomes_of}
use Rattle.samples.specs.Hex.{hex}
use Rattle.samples.specs.Devices.{common, configured, peer}
use Rattle.samples.specs.Requests.{OpeningRequest, owner, gatherer, listener, consumer, inhibited, keyed, followed, opened_reply}
use Rattle.samples.specs.Runs.{said, after, opens, replies, opened_notice, accepts, refuses, holds, id}
use Rattle.samples.specs.Computing.{computing}

-- the outcome of a request at a fresh device
abbrev answer_to : OpeningRequest → List Outcome
answer_to a = said common (opens a ∷ [])

-- the outcome if the output has an owner
abbrev requested_owned : OpeningRequest → List Outcome
requested_owned a = said common (opens owner ∷ opens a ∷ [])

abbrev refused : OpeningRequest → ℕ → List Outcome
refused a code = refuses peer a code ∷ []

abbrev accepted : OpeningRequest → List Outcome
accepted a = accepts peer a 1 0x20000001 ∷ []

abbrev refused_owned : OpeningRequest → ℕ → List Outcome
refused_owned a code = accepts peer owner 1 0x20000001 ∷ refuses peer a code ∷ []

abbrev at : List ℕ → OpeningRequest
at path = record owner { path = path }

-- ---- the path's segments

abbrev unread : OpeningRequest
unread = at (hex "91 02")

no_segment : answer_to unread ≡ refused unread 0x0315
unfolding computing
no_segment = refl

abbrev cut : OpeningRequest
cut = at (hex "20 04 24 97 2C 96 2D 00")

a_segment_is_cut : answer_to cut ≡ refused cut 0x0315
unfolding computing
a_segment_is_cut = refl

abbrev strange : OpeningRequest
strange = at (hex "34 05 00 00 00 00 00 00 00 00 20 04 24 97 2C 96 2C 64")

a_key_of_another_format : answer_to strange ≡ refused strange 0x0315
unfolding computing
a_key_of_another_format = refl

segments_before_the_triad : requested_owned unread ≡ refused_owned unread 0x0315
unfolding computing
segments_before_the_triad = refl

-- ---- the triad

the_triad_again : requested_owned owner ≡ refused_owned owner 0x0100
unfolding computing
the_triad_again = refl

abbrev another_vendor : OpeningRequest
another_vendor = keyed (hex "02 00 00 00 00 00 00 00") owner

the_triad_before_the_key : requested_owned another_vendor ≡ refused_owned another_vendor 0x0100
unfolding computing
the_triad_before_the_key = refl

-- another vendor's, or another device's, of the same serial number is another triad
abbrev second_originator : OpeningRequest
second_originator = record (consumer 1) { originator = 0x12345679 }

a_triad_has_three_parts : requested_owned second_originator ≡ accepts peer owner 1 0x20000001 ∷ accepts peer second_originator 2 0x20000002 ∷ []
unfolding computing
a_triad_has_three_parts = refl

-- ---- the key

vendor : answer_to another_vendor ≡ refused another_vendor 0x0114
unfolding computing
vendor = refl

abbrev another_product : OpeningRequest
another_product = keyed (hex "01 00 0C 00 08 00 02 03") owner

product : answer_to another_product ≡ refused another_product 0x0114
unfolding computing
product = refl

abbrev another_type : OpeningRequest
another_type = keyed (hex "01 00 0D 00 07 00 02 03") owner

device_type : answer_to another_type ≡ refused another_type 0x0115
unfolding computing
device_type = refl

abbrev anything : OpeningRequest
anything = keyed (hex "00 00 00 00 00 00 00 00") owner

zeros_match_anything : answer_to anything ≡ accepted anything
unfolding computing
zeros_match_anything = refl

-- a key of the device with this major byte and this minor revision
abbrev revised : ℕ → ℕ → OpeningRequest
revised major minor = keyed (0x01 ∷ 0x00 ∷ 0x0C ∷ 0x00 ∷ 0x07 ∷ 0x00 ∷ major ∷ minor ∷ []) owner

the_same_revision : answer_to (revised 0x02 0x03) ≡ accepted (revised 0x02 0x03)
unfolding computing
the_same_revision = refl

an_older_minor_revision : answer_to (revised 0x02 0x02) ≡ refused (revised 0x02 0x02) 0x0116
unfolding computing
an_older_minor_revision = refl

an_older_minor_one_compatibly : answer_to (revised 0x82 0x02) ≡ accepted (revised 0x82 0x02)
unfolding computing
an_older_minor_one_compatibly = refl

the_same_compatibly : answer_to (revised 0x82 0x03) ≡ accepted (revised 0x82 0x03)
unfolding computing
the_same_compatibly = refl

a_newer_minor_one_compatibly : answer_to (revised 0x82 0x04) ≡ refused (revised 0x82 0x04) 0x0116
unfolding computing
a_newer_minor_one_compatibly = refl

another_major_revision : answer_to (revised 0x03 0x03) ≡ refused (revised 0x03 0x03) 0x0116
unfolding computing
another_major_revision = refl

an_older_major_one_compatibly : answer_to (revised 0x81 0x03) ≡ refused (revised 0x81 0x03) 0x0116
unfolding computing
an_older_major_one_compatibly = refl

any_major_revision : answer_to (revised 0x00 0x03) ≡ accepted (revised 0x00 0x03)
unfolding computing
any_major_revision = refl

any_major_one_with_a_wrong_minor_one : answer_to (revised 0x00 0x04) ≡ refused (revised 0x00 0x04) 0x0116
unfolding computing
any_major_one_with_a_wrong_minor_one = refl

any_major_one_compatibly : answer_to (revised 0x80 0x02) ≡ accepted (revised 0x80 0x02)
unfolding computing
any_major_one_compatibly = refl

any_major_one_with_a_newer_minor_one : answer_to (revised 0x80 0x04) ≡ refused (revised 0x80 0x04) 0x0116
unfolding computing
any_major_one_with_a_newer_minor_one = refl

any_minor_revision : answer_to (revised 0x02 0x00) ≡ accepted (revised 0x02 0x00)
unfolding computing
any_minor_revision = refl

abbrev vendor_and_type : OpeningRequest
vendor_and_type = keyed (hex "02 00 0D 00 00 00 00 00") owner

the_vendor_before_the_device_type : answer_to vendor_and_type ≡ refused vendor_and_type 0x0114
unfolding computing
the_vendor_before_the_device_type = refl

abbrev type_and_product : OpeningRequest
type_and_product = keyed (hex "00 00 0D 00 08 00 00 00") owner

the_product_before_the_device_type : answer_to type_and_product ≡ refused type_and_product 0x0114
unfolding computing
the_product_before_the_device_type = refl

abbrev type_and_revision : OpeningRequest
type_and_revision = keyed (hex "00 00 0D 00 00 00 05 00") owner

the_device_type_before_the_revision : answer_to type_and_revision ≡ refused type_and_revision 0x0115
unfolding computing
the_device_type_before_the_revision = refl

abbrev revision_and_type : OpeningRequest
revision_and_type = record (revised 0x05 0x00) { o_t_params = 0x280A }

the_revision_before_the_types : answer_to revision_and_type ≡ refused revision_and_type 0x0116
unfolding computing
the_revision_before_the_types = refl

-- ---- the types

abbrev o_t : ℕ → OpeningRequest
o_t word = record owner { o_t_params = word }

abbrev t_o : ℕ → OpeningRequest
t_o word = record owner { t_o_params = word }

a_null_consumed_type : answer_to (o_t 0x080A) ≡ refused (o_t 0x080A) 0x0123
unfolding computing
a_null_consumed_type = refl

a_multicast_consumed_type : answer_to (o_t 0x280A) ≡ refused (o_t 0x280A) 0x0123
unfolding computing
a_multicast_consumed_type = refl

a_reserved_consumed_type : answer_to (o_t 0x680A) ≡ refused (o_t 0x680A) 0x0123
unfolding computing
a_reserved_consumed_type = refl

a_null_produced_type : answer_to (t_o 0x0806) ≡ refused (t_o 0x0806) 0x0124
unfolding computing
a_null_produced_type = refl

a_reserved_produced_type : answer_to (t_o 0x6806) ≡ refused (t_o 0x6806) 0x0124
unfolding computing
a_reserved_produced_type = refl

abbrev both_null : OpeningRequest
both_null = record owner { o_t_params = 0x080A; t_o_params = 0x0806 }

the_consumed_type_before_the_produced_one : answer_to both_null ≡ refused both_null 0x0123
unfolding computing
the_consumed_type_before_the_produced_one = refl

abbrev null_by_the_application : OpeningRequest
null_by_the_application = record owner { t_o_params = 0x0806; trigger = 0x21 }

the_produced_type_before_the_trigger : answer_to null_by_the_application ≡ refused null_by_the_application 0x0124
unfolding computing
the_produced_type_before_the_trigger = refl

-- priority, variable size and the spare bit are not judged
abbrev otherwise : OpeningRequest
otherwise = record owner { o_t_params = 0x5E0A; t_o_params = 0x5E06 }

other_bits_of_the_parameters : answer_to otherwise ≡ accepted otherwise
unfolding computing
other_bits_of_the_parameters = refl

-- ---- class and trigger

abbrev by : ℕ → OpeningRequest
by trigger = record owner { trigger = trigger }

the_application_s_trigger : answer_to (by 0x21) ≡ refused (by 0x21) 0x0103
unfolding computing
the_application_s_trigger = refl

class_0 : answer_to (by 0x00) ≡ refused (by 0x00) 0x0103
unfolding computing
class_0 = refl

class_3 : answer_to (by 0x03) ≡ refused (by 0x03) 0x0103
unfolding computing
class_3 = refl

change_of_state : answer_to (by 0x11) ≡ accepted (by 0x11)
unfolding computing
change_of_state = refl

the_direction_is_not_judged : answer_to (by 0x81) ≡ accepted (by 0x81)
unfolding computing
the_direction_is_not_judged = refl

nor_with_change_of_state : answer_to (by 0x91) ≡ accepted (by 0x91)
unfolding computing
nor_with_change_of_state = refl

abbrev application_and_multiplier : OpeningRequest
application_and_multiplier = record owner { trigger = 0x21; multiplier = 8 }

the_trigger_before_the_multiplier : answer_to application_and_multiplier ≡ refused application_and_multiplier 0x0103
unfolding computing
the_trigger_before_the_multiplier = refl

-- ---- multiplier, redundant owners

abbrev waiting : ℕ → OpeningRequest
waiting multiplier = record owner { multiplier = multiplier }

the_greatest_multiplier : answer_to (waiting 7) ≡ accepted (waiting 7)
unfolding computing
the_greatest_multiplier = refl

no_multiplier : answer_to (waiting 8) ≡ refused (waiting 8) 0x0108
unfolding computing
no_multiplier = refl

a_redundant_owner_consumed : answer_to (o_t 0xC80A) ≡ refused (o_t 0xC80A) 0x0108
unfolding computing
a_redundant_owner_consumed = refl

a_redundant_owner_produced : answer_to (t_o 0xC806) ≡ refused (t_o 0xC806) 0x0108
unfolding computing
a_redundant_owner_produced = refl

abbrev redundant_at_once : OpeningRequest
redundant_at_once = record owner { t_o_params = 0xC806; o_t_rpi = 0 }

a_redundant_owner_before_the_intervals : answer_to redundant_at_once ≡ refused redundant_at_once 0x0108
unfolding computing
a_redundant_owner_before_the_intervals = refl

-- ---- packet intervals

abbrev every : ℕ → ℕ → OpeningRequest
every o_t_rpi t_o_rpi = record owner { o_t_rpi = o_t_rpi; t_o_rpi = t_o_rpi }

-- requested intervals, and the actual intervals of the reply
abbrev paced : ℕ → ℕ → ℕ → ℕ → Type 0
paced o_t_rpi t_o_rpi o_t_api_us t_o_api_us =
    answer_to (every o_t_rpi t_o_rpi)
    ≡ replies peer (opened_reply owner (id 1) 0x20000001 o_t_api_us t_o_api_us) (opened_notice owner 1 ∷ []) ∷ []

the_longest_intervals : paced 10000000 10000000 10000000 10000000
unfolding computing
the_longest_intervals = refl

the_shortest_intervals : paced 1 1 1000 1000
unfolding computing
the_shortest_intervals = refl

intervals_are_rounded_up : paced 9001 10001 10000 11000
unfolding computing
intervals_are_rounded_up = refl

no_consumed_interval : answer_to (every 0 10000) ≡ refused owner 0x0111
unfolding computing
no_consumed_interval = refl

no_produced_interval : answer_to (every 10000 0) ≡ refused owner 0x0111
unfolding computing
no_produced_interval = refl

too_long_a_consumed_interval : answer_to (every 10000001 10000) ≡ refused owner 0x0111
unfolding computing
too_long_a_consumed_interval = refl

too_long_a_produced_interval : answer_to (every 10000 10000001) ≡ refused owner 0x0111
unfolding computing
too_long_a_produced_interval = refl

abbrev inhibit_and_interval : OpeningRequest
inhibit_and_interval = inhibited 11 (every 0 10000)

the_intervals_before_the_inhibit_time : answer_to inhibit_and_interval ≡ refused inhibit_and_interval 0x0111
unfolding computing
the_intervals_before_the_inhibit_time = refl

-- ---- the production inhibit time

an_inhibit_time_below_the_interval : answer_to (inhibited 5 owner) ≡ accepted owner
unfolding computing
an_inhibit_time_below_the_interval = refl

an_inhibit_time_equal_to_the_interval : answer_to (inhibited 10 owner) ≡ accepted owner
unfolding computing
an_inhibit_time_equal_to_the_interval = refl

an_inhibit_time_above_the_interval : answer_to (inhibited 11 owner) ≡ refused owner 0x011B
unfolding computing
an_inhibit_time_above_the_interval = refl

-- it is the T->O interval that counts, rounded up
an_inhibit_time_up_to_the_rounded_interval :
    answer_to (inhibited 10 (every 5000 9001))
    ≡ replies peer (opened_reply owner (id 1) 0x20000001 5000 10000) (opened_notice owner 1 ∷ []) ∷ []
unfolding computing
an_inhibit_time_up_to_the_rounded_interval = refl

a_cyclic_request_is_not_held_back : answer_to (record (inhibited 11 owner) { trigger = 0x01 }) ≡ accepted owner
unfolding computing
a_cyclic_request_is_not_held_back = refl

abbrev inhibit_and_path : OpeningRequest
inhibit_and_path = inhibited 11 (at (hex "20 05 24 97 2C 96 2C 64"))

the_inhibit_time_before_the_path : answer_to inhibit_and_path ≡ refused inhibit_and_path 0x011B
unfolding computing
the_inhibit_time_before_the_path = refl

-- an inhibit segment may stand anywhere in the path
an_inhibit_time_at_the_end : answer_to (record (followed (hex "43 0B") owner) { trigger = 0x11 }) ≡ refused owner 0x011B
unfolding computing
an_inhibit_time_at_the_end = refl

-- ---- the path

abbrev misarranged : OpeningRequest
misarranged = at (hex "20 04 2C 96")

a_misarranged_path : answer_to misarranged ≡ refused misarranged 0x0117
unfolding computing
a_misarranged_path = refl

another_class : answer_to (at (hex "20 05 24 97 2C 96 2C 64")) ≡ refused owner 0x0117
unfolding computing
another_class = refl

two_inhibit_times : answer_to (inhibited 5 (inhibited 5 owner)) ≡ refused owner 0x0117
unfolding computing
two_inhibit_times = refl

no_key_of_a_misarranged_path : answer_to (keyed (hex "02 00 00 00 00 00 00 00") misarranged) ≡ refused misarranged 0x0117
unfolding computing
no_key_of_a_misarranged_path = refl

no_inhibit_time_of_a_misarranged_path : answer_to (inhibited 11 misarranged) ≡ refused misarranged 0x0117
unfolding computing
no_inhibit_time_of_a_misarranged_path = refl

another_configuration : answer_to (at (hex "20 04 24 98 2C 96 2C 64")) ≡ refused owner 0x0129
unfolding computing
another_configuration = refl

another_consumed_point : answer_to (at (hex "20 04 24 97 2C 70 2C 64")) ≡ refused owner 0x012A
unfolding computing
another_consumed_point = refl

another_produced_point : answer_to (at (hex "20 04 24 97 2C 96 2C 71")) ≡ refused owner 0x012B
unfolding computing
another_produced_point = refl

the_class_before_the_configuration : answer_to (at (hex "20 05 24 98 2C 96 2C 64")) ≡ refused owner 0x0117
unfolding computing
the_class_before_the_configuration = refl

the_configuration_before_the_consumed_point : answer_to (at (hex "20 04 24 98 2C 70 2C 64")) ≡ refused owner 0x0129
unfolding computing
the_configuration_before_the_consumed_point = refl

the_consumed_point_before_the_produced_one : answer_to (at (hex "20 04 24 97 2C 70 2C 71")) ≡ refused owner 0x012A
unfolding computing
the_consumed_point_before_the_produced_one = refl

the_produced_point_before_the_data : answer_to (at (hex "20 04 24 97 2C 96 2C 71 80 01 AA BB")) ≡ refused owner 0x012B
unfolding computing
the_produced_point_before_the_data = refl

no_configuration_is_named : answer_to (at (hex "20 04 2C 96 2C 64")) ≡ accepted owner
unfolding computing
no_configuration_is_named = refl

-- ---- the data segment

-- the owner with two bytes of configuration, and input only
abbrev configuring : OpeningRequest
configuring = followed (hex "80 01 AA BB") owner

abbrev reading : List ℕ → OpeningRequest
reading segment = followed segment (consumer 2)

-- the outcome of a request if an owner has configured the device
abbrev requested_configured : OpeningRequest → List Outcome
requested_configured a = said configured (opens configuring ∷ opens a ∷ Read 151 ∷ [])

abbrev refused_configured : OpeningRequest → ℕ → List Outcome
refused_configured a code = accepts peer owner 1 0x20000001 ∷ refuses peer a code ∷ holds (hex "AA BB") ∷ []

abbrev accepted_configured : OpeningRequest → List Outcome
accepted_configured a = accepts peer owner 1 0x20000001 ∷ accepts peer a 2 0x20000002 ∷ holds (hex "AA BB") ∷ []

no_data_leave_the_configuration : requested_configured (reading []) ≡ accepted_configured (reading [])
unfolding computing
no_data_leave_the_configuration = refl

equal_data : requested_configured (reading (hex "80 01 AA BB")) ≡ accepted_configured (reading [])
unfolding computing
equal_data = refl

other_data : requested_configured (reading (hex "80 01 AA CC")) ≡ refused_configured (reading []) 0x0106
unfolding computing
other_data = refl

longer_data : requested_configured (reading (hex "80 02 AA BB 00 00")) ≡ refused_configured (reading []) 0x0126
unfolding computing
longer_data = refl

empty_data_are_not_absent : requested_configured (reading (hex "80 00")) ≡ refused_configured (reading []) 0x0126
unfolding computing
empty_data_are_not_absent = refl

the_data_s_length_before_its_bytes : requested_configured (reading (hex "80 02 AA CC 00 00")) ≡ refused_configured (reading []) 0x0126
unfolding computing
the_data_s_length_before_its_bytes = refl

abbrev changing : OpeningRequest
changing = record (reading (hex "80 01 AA CC")) { o_t_params = 0x4803 }

the_data_s_bytes_before_the_sizes : requested_configured changing ≡ refused_configured changing 0x0106
unfolding computing
the_data_s_bytes_before_the_sizes = refl

data_without_a_configuration : answer_to (at (hex "20 04 2C 96 2C 64 80 01 AA BB")) ≡ refused owner 0x0126
unfolding computing
data_without_a_configuration = refl

abbrev unnamed : OpeningRequest
unnamed = record (consumer 2) { path = hex "20 04 2C 98 2C 64 80 00" }

empty_data_without_a_configuration : requested_configured unnamed ≡ accepted_configured unnamed
unfolding computing
empty_data_without_a_configuration = refl

abbrev oversized : OpeningRequest
oversized = record configuring { t_o_params = 0x4807 }

a_refused_request_stores_nothing : said configured (opens oversized ∷ Read 151 ∷ []) ≡ refuses peer owner 0x0128 ∷ holds (hex "00 00") ∷ []
unfolding computing
a_refused_request_stores_nothing = refl

-- ---- sizes

too_small_a_consumed_size : answer_to (o_t 0x4809) ≡ refused owner 0x0127
unfolding computing
too_small_a_consumed_size = refl

too_large_a_produced_size : answer_to (t_o 0x4807) ≡ refused owner 0x0128
unfolding computing
too_large_a_produced_size = refl

abbrev beating : OpeningRequest
beating = record (consumer 2) { o_t_params = 0x4806 }

a_heartbeat_has_no_data : answer_to beating ≡ refused beating 0x0127
unfolding computing
a_heartbeat_has_no_data = refl

abbrev both_sizes : OpeningRequest
both_sizes = record owner { o_t_params = 0x4809; t_o_params = 0x4807 }

the_consumed_size_before_the_produced_one : answer_to both_sizes ≡ refused owner 0x0127
unfolding computing
the_consumed_size_before_the_produced_one = refl

-- ---- owners

abbrev second : OpeningRequest
second = record owner { serial = 2; t_o_id = 0x20000002 }

another_owner : requested_owned second ≡ refused_owned second 0x0106
unfolding computing
another_owner = refl

abbrev second_oversized : OpeningRequest
second_oversized = record second { t_o_params = 0x4807 }

the_sizes_before_ownership : requested_owned second_oversized ≡ refused_owned second 0x0128
unfolding computing
the_sizes_before_ownership = refl

abbrev first_multicast : OpeningRequest
first_multicast = record owner { t_o_params = 0x2806 }

abbrev second_multicast : OpeningRequest
second_multicast = record second { t_o_params = 0x2806; t_o_rpi = 20000 }

ownership_before_the_group :
    said common (opens first_multicast ∷ opens second_multicast ∷ [])
    ≡ accepts peer owner 1 0x10000002 ∷ refuses peer second 0x0106 ∷ []
unfolding computing
ownership_before_the_group = refl

-- ---- listeners

abbrev listening_alone : OpeningRequest
listening_alone = record listener { t_o_params = 0x4806 }

a_listener_is_multicast : answer_to listening_alone ≡ refused listening_alone 0x0124
unfolding computing
a_listener_is_multicast = refl

and_that_before_its_support : said common (opens gatherer ∷ opens listening_alone ∷ []) ≡ accepts peer gatherer 1 0x10000002 ∷ refuses peer listener 0x0124 ∷ []
unfolding computing
and_that_before_its_support = refl

a_listener_without_support : answer_to listener ≡ refused listener 0x0119
unfolding computing
a_listener_without_support = refl

a_point_to_point_connection_supports_none : requested_owned listener ≡ refused_owned listener 0x0119
unfolding computing
a_point_to_point_connection_supports_none = refl

too_small_a_listener : answer_to (record listener { t_o_params = 0x2805 }) ≡ refused listener 0x0128
unfolding computing
too_small_a_listener = refl

-- ---- timed-out connections

-- a timed-out connection keeps no configuration
a_lost_connection_s_configuration_changes :
    outcomes_of (after configured (opens configuring ∷ Tick 10000 ∷ [])) (opens (reading (hex "80 01 AA CC")) ∷ Read 151 ∷ [])
    ≡ accepts peer (reading []) 2 0x20000002 ∷ holds (hex "AA CC") ∷ []
unfolding computing
a_lost_connection_s_configuration_changes = refl

-- and supports no listener
a_lost_connection_supports_none :
    outcomes_of (after common (opens gatherer ∷ Tick 10000 ∷ [])) (opens listener ∷ []) ≡ refuses peer listener 0x0119 ∷ []
unfolding computing
a_lost_connection_supports_none = refl

-- ---- a device without a configuration

abbrev unconfigured : Profile
unconfigured = record common { config = None }

no_configuration_can_be_named :
    said unconfigured (opens owner ∷ opens (at (hex "20 04 2C 96 2C 64")) ∷ Read 151 ∷ [])
    ≡ refuses peer owner 0x0129 ∷ accepts peer owner 1 0x20000001 ∷ Err NoSuchPoint ∷ []
unfolding computing
no_configuration_can_be_named = refl
