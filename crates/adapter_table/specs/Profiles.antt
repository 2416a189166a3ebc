-- The profile of an adapter, and its first fault
-- (Volume 1, chapter 3, connection points; Volume 2, chapter 3, multicast addresses need a host id).
use Rattle.std.specs.Prelude.{ℕ, ◌+◌, ◌-◌, ◌*◌, ◌%◌, ◌^◌, ◌==◌, ◌&&◌, ◌||◌, not, nat_le, Bool, true, false, List, [], ◌∷◌, ◌++◌, length, map, Option, Some, None, option_to_list, is_some}
use Rattle.std.specs.Int.{is_power_of_two}
use Rattle.std.specs.List.{list_any, list_all}
use Rattle.cip_types.specs.Cases.{Case, first_case}
use Rattle.cip_types.specs.declared.ids.IdBlock.{IdBlock}
use Rattle.cip_types.specs.Ids.{are_ids, first_block}
use Rattle.cip_types.specs.declared.names.Identity.{Identity}
use Rattle.adapter_table.specs.declared.profile.OutputPoint.{OutputPoint}
use Rattle.adapter_table.specs.declared.profile.InputPoint.{InputPoint}
use Rattle.adapter_table.specs.declared.profile.Description.{Description}
use Rattle.adapter_table.specs.declared.maker_limits.Places.{Places}
use Rattle.adapter_table.specs.declared.maker_limits.MakerLimits.{MakerLimits}
use Rattle.adapter_table.specs.declared.maker_limits.NodeLimits.{NodeLimits}
use Rattle.adapter_table.specs.declared.profile.Profile.{Profile}
use Rattle.cip_events.specs.declared.profile_fault.ProfileFault.{ProfileFault}
use Rattle.cip_events.specs.declared.profile_fault.ProfileFault.TheVariants.{Incarnation, Address, Points, SameInstance, Length, Identity as IdentityFault, Description as DescriptionFault, Limits, Objects}

-- ADDRESSES

-- how many addresses a network of this mask has
abbrev pub network_size : ℕ → ℕ
network_size mask = 2 ^ 32 - mask

-- the bits of an address that name the host in its network
abbrev pub host_id : ℕ → ℕ → ℕ
host_id node mask = node % network_size mask

-- the mask is ones and then zeros, and the address is not that of the network itself
abbrev pub is_address : ℕ → ℕ → Bool
is_address node mask = is_power_of_two (network_size mask) && not (host_id node mask == 0)

-- POINTS

-- the point has this instance
abbrev pub is_at : ℕ → InputPoint → Bool
is_at instance point = point.instance == instance

abbrev pub is_output_at : ℕ → OutputPoint → Bool
is_output_at instance point = point.instance == instance

-- an output by its instance and length alone
abbrev pub as_point : OutputPoint → InputPoint
as_point output = record { instance = output.instance; len = output.len }

-- a point without data
abbrev pub heartbeat : ℕ → InputPoint
heartbeat instance = record { instance = instance; len = 0 }

-- the configuration and the heartbeats
abbrev pub points_beside : Profile → List InputPoint
points_beside profile = option_to_list profile.config ++ heartbeat profile.input_only ∷ heartbeat profile.listen_only ∷ []

-- all points: outputs, inputs, the configuration and the heartbeats
abbrev pub all_points : Profile → List InputPoint
all_points profile = map as_point profile.outputs ++ (profile.inputs ++ points_beside profile)

-- no two points have one instance
abbrev pub are_distinct : List InputPoint → Bool
are_distinct [] = true
are_distinct (point ∷ points) = not (list_any (is_at point.instance) points) && are_distinct points

-- at least one input, and at most 8 inputs and 8 outputs
abbrev pub are_few : Profile → Bool
are_few profile = not (length profile.inputs == 0) && (nat_le (length profile.inputs) 8 && nat_le (length profile.outputs) 8)

-- 1 to 1,400 bytes
abbrev pub is_point_len : ℕ → Bool
is_point_len len = nat_le 1 len && nat_le len 1400

abbrev pub has_output_len : OutputPoint → Bool
has_output_len point = is_point_len point.len

abbrev pub has_input_len : InputPoint → Bool
has_input_len point = is_point_len point.len

-- 0 to 400 bytes, and whole words of two bytes
abbrev pub has_config_len : Option InputPoint → Bool
has_config_len None = true
has_config_len (Some config) = nat_le config.len 400 && config.len % 2 == 0

abbrev pub are_long_enough : Profile → Bool
are_long_enough profile = list_all has_output_len profile.outputs && (list_all has_input_len profile.inputs && has_config_len profile.config)

-- REVISIONS

-- a major revision of 1 to 127, and a minor one of at least 1
abbrev pub is_revision : Identity → Bool
is_revision identity = nat_le 1 identity.major && (nat_le identity.major 127 && nat_le 1 identity.minor)

-- DESCRIPTION

-- a name of at most 32 bytes, a physical address of six, and an inactivity time-out of at most an hour
abbrev pub is_described : Option Description → Bool
is_described None = true
is_described (Some d) = nat_le (length d.name) 32 && (length d.mac == 6 && nat_le d.inactivity 3600)

-- no point has the instance 0, by which tools ask the class itself
abbrev pub leaves_class : Profile → Bool
leaves_class profile = not (list_any (is_at 0) (all_points profile))

-- the description is one, and the points of a device that has one leave the class of Assembly to be asked
abbrev pub fits_description : Profile → Bool
fits_description profile = is_described profile.description && (not (is_some profile.description) || leaves_class profile)

-- LIMITS THAT THE MAKER STATES

-- no limits
abbrev pub no_limits : MakerLimits
no_limits = record { least_rpi = None; places = None; node_connections = None; own_closers = false; newer = None }

-- it is absent, or from the least to the most
abbrev pub is_from : ℕ → ℕ → Option ℕ → Bool
is_from least most None = true
is_from least most (Some value) = nat_le least value && nat_le value most

-- how many connections a node can open in its second, if the maker states it
abbrev pub most_openings : Option NodeLimits → Option ℕ
most_openings None = None
most_openings (Some limits) = limits.openings

-- how many class 3 connections there can be, if the maker states it
abbrev pub class3_places : Option Places → Option ℕ
class3_places None = None
class3_places (Some places) = places.class3_connections

-- then the requests that wait for the application are shared by node
abbrev pub shares_requests : Option Places → Bool
shares_requests places = is_some (class3_places places)

-- the places of all application types
abbrev pub all_places : Places → ℕ
all_places places = places.owners + (places.readers + places.listeners)

-- they are absent, or 1 to 64 in all, and at most 64 of class 3 beside them
abbrev pub are_few_places : Option Places → Bool
are_few_places None = true
are_few_places (Some places) = (nat_le 1 (all_places places) && nat_le (all_places places) 64) && is_from 0 64 places.class3_connections

-- they are absent, or 1 to 64 connections, and 1 to 65,535 openings in a second
abbrev pub are_node_limits : Option NodeLimits → Bool
are_node_limits None = true
are_node_limits (Some limits) = (nat_le 1 limits.connections && nat_le limits.connections 64) && is_from 1 65535 limits.openings

-- a packet interval of at most 10 seconds, places, what a node can have, and numbers that are ahead
-- by less than 2 to 2^31
abbrev pub are_limits : MakerLimits → Bool
are_limits limits =
    is_from 1 10000000 limits.least_rpi && (are_few_places limits.places && (are_node_limits limits.node_connections && is_from 2 (2 ^ 31) limits.newer))

-- OBJECTS OF THE MAKER'S OWN

abbrev pub is_class : ℕ → ℕ → Bool
is_class class other = other == class

-- the classes of other objects that a device has
abbrev pub served_classes : List ℕ
served_classes = 0x01 ∷ 0x02 ∷ 0x04 ∷ 0x06 ∷ 0xF5 ∷ 0xF6 ∷ []

-- 1 to 65,535, and not the class of another object
abbrev pub is_free_class : ℕ → Bool
is_free_class class = nat_le 1 class && (nat_le class 65535 && not (list_any (is_class class) served_classes))

-- each is free, and no two are equal
abbrev pub are_own_classes : List ℕ → Bool
are_own_classes [] = true
are_own_classes (class ∷ classes) = is_free_class class && (not (list_any (is_class class) classes) && are_own_classes classes)

-- at most 16
abbrev pub are_objects : List ℕ → Bool
are_objects classes = nat_le (length classes) 16 && are_own_classes classes

-- CONNECTION IDS

-- the block of ids that a device begins with: the one that is stated, or its incarnation's
abbrev pub first_ids : Profile → IdBlock
first_ids profile = first_block profile.incarnation profile.ids

-- The number of the first request to the application. Lives whose ids differ give no two requests one number, unless one of them
-- gives more than 2^32.
abbrev pub first_request : Option IdBlock → ℕ
first_request None = 1
first_request (Some block) = block.first * 2 ^ 32 + 1

-- THE FIRST FAULT

-- the faults of a profile, in the order in which they are looked for
abbrev pub profile_tests : Profile → List (Case ProfileFault)
profile_tests profile =
    (not (are_ids profile.incarnation profile.ids), Incarnation)
    ∷ (not (is_address profile.node.0 profile.mask), Address)
    ∷ (not (are_few profile), Points)
    ∷ (not (are_distinct (all_points profile)), SameInstance)
    ∷ (not (are_long_enough profile), Length)
    ∷ (not (is_revision profile.identity), IdentityFault)
    ∷ (not (fits_description profile), DescriptionFault)
    ∷ (not (are_limits profile.limits), Limits)
    ∷ (not (are_objects profile.objects), Objects)
    ∷ []

-- the first fault
unfoldable pub profile_fault : Profile → Option ProfileFault
profile_fault profile = first_case (profile_tests profile)
