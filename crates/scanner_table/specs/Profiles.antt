-- The check of a scanner's profile: its tests, and the first fault (Volume 1, chapter 3, application connection types,
-- requested packet interval, connection timeout multiplier, production inhibit time; Volume 2, chapter 2, sequenced address
-- item).
use Rattle.std.specs.Prelude.{ℕ, ◌%◌, ◌^◌, ◌==◌, ◌&&◌, ◌||◌, not, nat_le, Bool, true, if◌then◌else◌, List, [], ◌∷◌, length, Option, Some, None}
use Rattle.std.specs.List.{list_any, list_all}
use Rattle.cip_types.specs.declared.ids.IdBlock.{IdBlock}
use Rattle.cip_types.specs.Ids.{are_ids, first_block}
use Rattle.cip_types.specs.Cases.{Case, first_case}
use Rattle.cip_netparams.specs.declared.Trigger.{Trigger}
use Rattle.cip_netparams.specs.declared.Trigger.TheVariants.{Cyclic, ChangeOfState}
use Rattle.cip_netparams.specs.Rate.{is_interval, interval_ms}
use Rattle.cip_events.specs.declared.profile_fault.ProfileFault.{ProfileFault}
use Rattle.cip_events.specs.declared.profile_fault.ProfileFault.TheVariants.{Incarnation, Points, SameInstance, Length, Timing, Limits}
use Rattle.cip_productions.specs.declared.kind.Kind.{Kind}
use Rattle.cip_productions.specs.Kinds.{is_owner, is_listener}
use Rattle.scanner_table.specs.declared.profile.SlotConfig.{SlotConfig}
use Rattle.scanner_table.specs.declared.profile.ScannerProfile.{ScannerProfile}

-- SLOTS

-- at least one slot, and at most 64
abbrev pub are_few : List SlotConfig → Bool
are_few slots = nat_le 1 (length slots) && nat_le (length slots) 64

-- a listen-only slot is multicast
abbrev pub listens_to_group : SlotConfig → Bool
listens_to_group slot = not (is_listener slot.kind) || slot.multicast

abbrev pub are_served : ScannerProfile → Bool
are_served profile = are_few profile.slots && list_all listens_to_group profile.slots

-- both slots are multicast, and name one produced point of one target
abbrev pub shares_group : SlotConfig → SlotConfig → Bool
shares_group slot other = (slot.multicast && other.multicast) && (slot.target.0 == other.target.0 && slot.produced == other.produced)

-- no two slots share a group
abbrev pub are_apart : List SlotConfig → Bool
are_apart [] = true
are_apart (slot ∷ slots) = not (list_any (shares_group slot) slots) && are_apart slots

-- LENGTHS

-- 1 to 1,400 bytes
abbrev pub is_point_len : ℕ → Bool
is_point_len len = nat_le 1 len && nat_le len 1400

-- an exclusive owner sends an output, and a connection of another kind sends no data
abbrev pub is_out_len : Kind → ℕ → Bool
is_out_len kind len = if is_owner kind then is_point_len len else len == 0

-- 0 to 400 bytes in whole words of two bytes, and none if the slot names no configuration instance
abbrev pub is_config : Option ℕ → List ℕ → Bool
is_config None bytes = length bytes == 0
is_config (Some instance) bytes = nat_le (length bytes) 400 && length bytes % 2 == 0

abbrev pub has_lengths : SlotConfig → Bool
has_lengths slot = is_point_len slot.in_len && (is_out_len slot.kind slot.out_len && is_config slot.config slot.config_data)

-- TIMES

-- only a change-of-state producer has an inhibit time, at most its packet interval in milliseconds
abbrev pub is_inhibit : Trigger → ℕ → ℕ → Bool
is_inhibit Cyclic inhibit api = inhibit == 0
is_inhibit ChangeOfState inhibit api = nat_le inhibit api

abbrev pub has_times : SlotConfig → Bool
has_times slot =
    is_interval slot.o_t_rpi
    && (is_interval slot.t_o_rpi && (nat_le slot.mult 7 && is_inhibit slot.trigger slot.inhibit (interval_ms slot.t_o_rpi)))

-- 1 to 60,000 milliseconds
abbrev pub is_wait : ℕ → Bool
is_wait ms = nat_le 1 ms && nat_le ms 60000

abbrev pub keeps_time : ScannerProfile → Bool
keeps_time profile = list_all has_times profile.slots && (is_wait profile.open_timeout && is_wait profile.retry)

-- NUMBERS

-- a target that also produces at changes of state is held back by an inhibit time, which says how fast its numbers rise
abbrev pub is_paced : Trigger → ℕ → Bool
is_paced Cyclic inhibit = true
is_paced ChangeOfState inhibit = not (inhibit == 0)

abbrev pub has_pace : SlotConfig → Bool
has_pace slot = is_paced slot.trigger slot.inhibit

-- 2 to 2^31
abbrev pub is_window : ℕ → Bool
is_window within = nat_le 2 within && nat_le within (2 ^ 31)

-- a limit on how far ahead accepted numbers can be is within its range, and then each slot has a pace
abbrev pub are_paced : Option ℕ → List SlotConfig → Bool
are_paced None slots = true
are_paced (Some within) slots = is_window within && list_all has_pace slots

-- OPENINGS

-- 1 to 48 openings
abbrev pub are_openings : Option ℕ → Bool
are_openings None = true
are_openings (Some most) = nat_le 1 most && nat_le most 48

-- SERIAL NUMBERS

-- a connection serial number is 1 to 65,535
abbrev pub are_serials : Option ℕ → Bool
are_serials None = true
are_serials (Some first) = nat_le 1 first && nat_le first 65535

-- CONNECTION IDS

-- the block of ids that a scanner begins with: the one that is stated, or its incarnation's
abbrev pub first_ids : ScannerProfile → IdBlock
first_ids profile = first_block profile.incarnation profile.ids

-- THE FIRST FAULT

-- the tests of a profile in their order, each with its fault
abbrev pub profile_tests : ScannerProfile → List (Case ProfileFault)
profile_tests profile =
    (not (are_ids profile.incarnation profile.ids), Incarnation)
    ∷ (not (are_served profile), Points)
    ∷ (not (are_apart profile.slots), SameInstance)
    ∷ (not (list_all has_lengths profile.slots), Length)
    ∷ (not (keeps_time profile), Timing)
    ∷ (not (are_paced profile.newer profile.slots), Limits)
    ∷ (not (are_openings profile.openings), Limits)
    ∷ (not (are_serials profile.serials), Limits)
    ∷ []

-- the fault of the first test that fails
unfoldable pub profile_fault : ScannerProfile → Option ProfileFault
profile_fault profile = first_case (profile_tests profile)
