-- The first thing that is wrong with a profile.
use lib.Count.{ones, ones_cat}
use Rattle.std.proofs.Common.{◌≡◌, refl, ◌∙◌, arith, ℕ, ◌+◌, List, [], ◌∷◌, map, Some, None}
use Rattle.adapter_table.specs.declared.profile.Action.TheVariants.{Zero}
use Rattle.adapter_table.specs.declared.profile.Description.{Description}
use Rattle.adapter_table.specs.declared.profile.InputPoint.{InputPoint}
use Rattle.adapter_table.specs.declared.profile.OutputPoint.{OutputPoint}
use Rattle.adapter_table.specs.declared.profile.Profile.{Profile}
use Rattle.cip_events.specs.declared.profile_fault.ProfileFault.TheVariants.{Incarnation, Address, Points, SameInstance, Length, Identity as IdentityFault, Description as DescriptionFault}
use Rattle.adapter_table.specs.Profiles.{profile_fault}
use Rattle.cip_events.specs.Faults.{fault_number}
use Rattle.samples.specs.Devices.{common, configured, double, output, input}
use Rattle.samples.specs.Described.{pump, described}
use Rattle.samples.specs.Rows.{from}
use Rattle.samples.specs.Computing.{computing}

nothing_is_wrong : map profile_fault (common ∷ configured ∷ double ∷ []) ≡ None ∷ None ∷ None ∷ []
unfolding computing ones
nothing_is_wrong = refl

-- ---- incarnation and address

no_incarnation : profile_fault (record common { incarnation = 0 }) ≡ Some Incarnation
unfolding computing ones
no_incarnation = refl

-- an address and a mask
abbrev addressed : ℕ → ℕ → Profile
addressed node mask = record common { node = record { 0 = node }; mask = mask }

a_mask_with_a_gap : profile_fault (addressed 0xC0A8010A 0xFFFFFE80) ≡ Some Address
unfolding computing ones
a_mask_with_a_gap = refl

a_mask_with_a_one_at_its_end : profile_fault (addressed 0xC0A8010A 0xFFFFFF01) ≡ Some Address
unfolding computing ones
a_mask_with_a_one_at_its_end = refl

the_address_of_the_network : profile_fault (addressed 0xC0A80100 0xFFFFFF00) ≡ Some Address
unfolding computing ones
the_address_of_the_network = refl

the_longest_mask : profile_fault (addressed 0xC0A8010A 0xFFFFFFFF) ≡ Some Address
unfolding computing ones
the_longest_mask = refl

two_addresses : profile_fault (addressed 0xC0A8010B 0xFFFFFFFE) ≡ None
unfolding computing ones
two_addresses = refl

-- 2 ^ 32 has one digit of one, and is too large to have its digits counted here
a_byte_s_digits : ones 256 + ones 0 ≡ 1
unfolding ones
a_byte_s_digits = refl

the_digits_of_all_addresses : ones 4294967296 ≡ 1
the_digits_of_all_addresses = ones_cat 24 256 0 (omega arith) ∙ a_byte_s_digits

no_mask : profile_fault (addressed 0xC0A8010A 0) ≡ None
unfolding computing
no_mask = rw the_digits_of_all_addresses refl

no_address : profile_fault (addressed 0 0) ≡ Some Address
unfolding computing
no_address = rw the_digits_of_all_addresses refl

-- ---- points

-- so many inputs, and so many outputs, of a byte each
abbrev one_input : ℕ → InputPoint
one_input instance = input instance 1

abbrev one_output : ℕ → OutputPoint
one_output instance = output instance 1 Zero Zero

abbrev counted : ℕ → ℕ → Profile
counted inputs outputs = record common { inputs = map one_input (from 100 inputs); outputs = map one_output (from 200 outputs) }

eight_and_eight : profile_fault (counted 8 8) ≡ None
unfolding computing ones
eight_and_eight = refl

one_and_none : profile_fault (counted 1 0) ≡ None
unfolding computing ones
one_and_none = refl

no_input : profile_fault (counted 0 1) ≡ Some Points
unfolding computing ones
no_input = refl

nine_inputs : profile_fault (counted 9 1) ≡ Some Points
unfolding computing ones
nine_inputs = refl

nine_outputs : profile_fault (counted 1 9) ≡ Some Points
unfolding computing ones
nine_outputs = refl

-- ---- instances

abbrev at : ℕ → ℕ → ℕ → ℕ → ℕ → Profile
at from_output from_input from_config input_only listen_only = record common {
  outputs = one_output from_output ∷ [];
  inputs = one_input from_input ∷ [];
  config = Some (input from_config 0);
  input_only = input_only;
  listen_only = listen_only;
}

five_instances : profile_fault (at 1 2 3 4 5) ≡ None
unfolding computing ones
five_instances = refl

an_output_s_again :
    map profile_fault (at 1 1 3 4 5 ∷ at 1 2 1 4 5 ∷ at 1 2 3 1 5 ∷ at 1 2 3 4 1 ∷ [])
    ≡ Some SameInstance ∷ Some SameInstance ∷ Some SameInstance ∷ Some SameInstance ∷ []
unfolding computing ones
an_output_s_again = refl

an_input_s_again : map profile_fault (at 1 2 2 4 5 ∷ at 1 2 3 2 5 ∷ at 1 2 3 4 2 ∷ []) ≡ Some SameInstance ∷ Some SameInstance ∷ Some SameInstance ∷ []
unfolding computing ones
an_input_s_again = refl

the_configuration_s_again : map profile_fault (at 1 2 3 3 5 ∷ at 1 2 3 4 3 ∷ []) ≡ Some SameInstance ∷ Some SameInstance ∷ []
unfolding computing ones
the_configuration_s_again = refl

two_heartbeats : profile_fault (at 1 2 3 4 4) ≡ Some SameInstance
unfolding computing ones
two_heartbeats = refl

two_outputs : profile_fault (record common { outputs = one_output 1 ∷ one_output 1 ∷ [] }) ≡ Some SameInstance
unfolding computing ones
two_outputs = refl

two_inputs : profile_fault (record common { inputs = one_input 1 ∷ one_input 1 ∷ [] }) ≡ Some SameInstance
unfolding computing ones
two_inputs = refl

-- ---- lengths

abbrev sized : ℕ → ℕ → ℕ → Profile
sized of_output of_input of_config = record common {
  outputs = output 150 of_output Zero Zero ∷ [];
  inputs = input 100 of_input ∷ [];
  config = Some (input 151 of_config);
}

least_and_greatest : map profile_fault (sized 1 1 0 ∷ sized 1400 1400 400 ∷ record common { config = None } ∷ []) ≡ None ∷ None ∷ None ∷ []
unfolding computing ones
least_and_greatest = refl

outputs_of_other_lengths : map profile_fault (sized 0 4 0 ∷ sized 1401 4 0 ∷ []) ≡ Some Length ∷ Some Length ∷ []
unfolding computing ones
outputs_of_other_lengths = refl

inputs_of_other_lengths : map profile_fault (sized 4 0 0 ∷ sized 4 1401 0 ∷ []) ≡ Some Length ∷ Some Length ∷ []
unfolding computing ones
inputs_of_other_lengths = refl

configurations_of_other_lengths : map profile_fault (sized 4 4 402 ∷ sized 4 4 3 ∷ []) ≡ Some Length ∷ Some Length ∷ []
unfolding computing ones
configurations_of_other_lengths = refl

-- the second output and the second input count too
abbrev second_lengths : ℕ → ℕ → Profile
second_lengths of_output of_input = record common {
  outputs = one_output 1 ∷ output 2 of_output Zero Zero ∷ [];
  inputs = one_input 3 ∷ input 4 of_input ∷ [];
}

a_second_point_s_length : map profile_fault (second_lengths 1 1 ∷ second_lengths 0 1 ∷ second_lengths 1 0 ∷ []) ≡ None ∷ Some Length ∷ Some Length ∷ []
unfolding computing ones
a_second_point_s_length = refl

-- ---- revisions

abbrev revised : ℕ → ℕ → Profile
revised major minor = record common { identity = record { vendor = 1; device_type = 12; product = 7; major = major; minor = minor } }

revisions : map profile_fault (revised 1 1 ∷ revised 127 255 ∷ []) ≡ None ∷ None ∷ []
unfolding computing ones
revisions = refl

other_revisions : map profile_fault (revised 0 1 ∷ revised 128 1 ∷ revised 2 0 ∷ []) ≡ Some IdentityFault ∷ Some IdentityFault ∷ Some IdentityFault ∷ []
unfolding computing ones
other_revisions = refl

-- ---- the description

abbrev saying : Description → Profile
saying d = record described { description = Some d }

abbrev in_range : List Description
in_range =
    pump
    ∷ record pump { name = [] }
    ∷ record pump { name = from 65 32 }
    ∷ record pump { inactivity = 0 }
    ∷ record pump { inactivity = 3600 }
    ∷ []

abbrev out_of_range : List Description
out_of_range =
    record pump { name = from 65 33 }
    ∷ record pump { mac = from 1 5 }
    ∷ record pump { mac = from 1 7 }
    ∷ record pump { mac = [] }
    ∷ record pump { inactivity = 3601 }
    ∷ []

descriptions_in_range : map (λ d. profile_fault (saying d)) in_range ≡ None ∷ None ∷ None ∷ None ∷ None ∷ []
unfolding computing ones
descriptions_in_range = refl

descriptions_out_of_range :
    map (λ d. profile_fault (saying d)) out_of_range
    ≡ Some DescriptionFault ∷ Some DescriptionFault ∷ Some DescriptionFault ∷ Some DescriptionFault ∷ Some DescriptionFault ∷ []
unfolding computing ones
descriptions_out_of_range = refl

-- ---- the first of two

the_incarnation_before_the_address : profile_fault (record (addressed 0xC0A80100 0xFFFFFF00) { incarnation = 0 }) ≡ Some Incarnation
unfolding computing ones
the_incarnation_before_the_address = refl

the_address_before_the_points : profile_fault (record (addressed 0xC0A80100 0xFFFFFF00) { inputs = [] }) ≡ Some Address
unfolding computing ones
the_address_before_the_points = refl

the_points_before_the_instances : profile_fault (record common { inputs = []; listen_only = 152 }) ≡ Some Points
unfolding computing ones
the_points_before_the_instances = refl

the_instances_before_the_lengths : profile_fault (record common { inputs = input 100 0 ∷ []; listen_only = 152 }) ≡ Some SameInstance
unfolding computing ones
the_instances_before_the_lengths = refl

the_lengths_before_the_revision : profile_fault (record (revised 2 0) { config = Some (input 151 3) }) ≡ Some Length
unfolding computing ones
the_lengths_before_the_revision = refl

the_revision_before_the_description : profile_fault (record (revised 2 0) { description = Some (record pump { mac = [] }) }) ≡ Some IdentityFault
unfolding computing ones
the_revision_before_the_description = refl

-- ---- numbers

faults_by_number : map fault_number (Incarnation ∷ Address ∷ Points ∷ SameInstance ∷ Length ∷ IdentityFault ∷ DescriptionFault ∷ []) ≡ 1 ∷ 2 ∷ 3 ∷ 4 ∷ 5 ∷ 7 ∷ 8 ∷ []
faults_by_number = refl
