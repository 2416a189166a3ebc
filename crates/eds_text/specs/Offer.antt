-- What a data sheet offers of the connections that an adapter admits: packet intervals, triggers, kinds and numbers of
-- connections. By checks 8 and 16 of a Forward_Open each of them is bounded by the limits that the maker states.
use Rattle.std.specs.Prelude.{ℕ, ◌/◌, nat_lt, max, Bool, true, length, is_none, unwrap_or, Option, Some, None}
use Rattle.std.specs.Int.{div_ceil}
use Rattle.cip_types.specs.declared.limits.TheConstants.{LONGEST_RPI_US, MOST_CONNECTIONS}
use Rattle.cip_productions.specs.declared.kind.Kind.{Kind}
use Rattle.adapter_table.specs.declared.maker_limits.MakerLimits.{MakerLimits}
use Rattle.adapter_table.specs.declared.maker_limits.Places.{Places}
use Rattle.adapter_table.specs.declared.profile.Description.{Description}
use Rattle.adapter_table.specs.declared.profile.InputPoint.{InputPoint}
use Rattle.adapter_table.specs.declared.profile.Profile.{Profile}
use Rattle.adapter_table.specs.Intervals.{least_us}
use Rattle.adapter_table.specs.Objects.{most_class3}
use Rattle.adapter_table.specs.Profiles.{all_places, class3_places}
use Rattle.adapter_table.specs.StatedLimits.{places_of}
use Rattle.eds_text.specs.declared.offer.OfferedIntervals.{OfferedIntervals}
use Rattle.eds_text.specs.declared.offer.SheetCapacity.{SheetCapacity}
use Rattle.eds_text.specs.declared.offer.TheConstants.{SHORTEST_OFFERED_US, USUAL_RPI_US}

-- PACKET INTERVALS

abbrev pub intervals_from : ℕ → OfferedIntervals
intervals_from least = record { least = least; most = LONGEST_RPI_US; first = max USUAL_RPI_US least }

-- the least that the device admits: the maker's. A described device takes each interval for one of whole milliseconds, rounded down, so
-- that its least is in whole milliseconds
abbrev pub admitted_least : Option Description → Option ℕ → ℕ
admitted_least None least = unwrap_or least 0
admitted_least (Some d) least = least_us least

-- from that one on, and never below a millisecond
abbrev pub offered_least : Option Description → Option ℕ → ℕ
offered_least description least = max SHORTEST_OFFERED_US (admitted_least description least)

-- the first one is 10 ms, or the least
abbrev pub offered_intervals : Profile → OfferedIntervals
offered_intervals profile = intervals_from (offered_least profile.description profile.limits.least_rpi)

-- CONFIGURATION

-- how many words the configuration of a described device has, each of two bytes: tools ask for one after another
abbrev pub words_of : Option Description → Option InputPoint → ℕ
words_of None config = 0
words_of (Some d) None = 0
words_of (Some d) (Some point) = point.len / 2

-- TRIGGERS

-- cyclic is always offered. Change of state is not, where the maker states how far ahead numbers can be: the path of the
-- sheet has no inhibit time
abbrev pub offers_changes : MakerLimits → Bool
offers_changes limits = is_none limits.newer

-- KINDS

abbrev pub has_place_of : Option Places → Kind → Bool
has_place_of None kind = true
has_place_of (Some places) kind = nat_lt 0 (places_of places kind)

-- a connection of this kind can be established at all
abbrev pub has_place : MakerLimits → Kind → Bool
has_place limits kind = has_place_of limits.places kind

-- NUMBERS

-- at most so many datagrams of a connection are in a second
abbrev pub rate_at : OfferedIntervals → ℕ
rate_at intervals = div_ceil 1000000 intervals.least

-- so many connections can be established at one time
abbrev pub all_of : Option Places → ℕ
all_of None = MOST_CONNECTIONS
all_of (Some places) = all_places places

-- datagrams of a connection at the shortest interval; connections; producers of groups, one for each input; connections of class 3
abbrev pub capacity_of : Profile → SheetCapacity
capacity_of profile = record {
  rate = rate_at (offered_intervals profile);
  connections = all_of profile.limits.places;
  producers = length profile.inputs;
  messages = most_class3 (class3_places profile.limits.places);
}
