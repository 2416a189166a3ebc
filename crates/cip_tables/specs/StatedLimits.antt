-- Runs within the limits that the maker of an adapter states.
use Rattle.std.specs.Prelude.{◌≡◌, ◌<◌, false, List, Some, None}
use Rattle.cip_types.specs.declared.names.Triad.{Triad}
use Rattle.cip_events.specs.declared.event.Event.{Event}
use Rattle.cip_events.specs.Outcomes.{Outcome}
use Rattle.cip_productions.specs.declared.kind.Kind.{Kind}
use Rattle.adapter_table.specs.declared.maker_limits.Places.{Places}
use Rattle.adapter_table.specs.declared.table.AdapterTable.{AdapterTable}
use Rattle.adapter_table.specs.Rates.{OpensWithinLimits}
use Rattle.adapter_table.specs.Rows.{kind_count}
use Rattle.adapter_table.specs.Checks.{view_of, lacks_capacity}
use Rattle.adapter_table.specs.StatedLimits.{places_of, has_no_place, IsWithinLimits}
use Rattle.cip_tables.specs.declared.table.Config.{Config}
use Rattle.cip_tables.specs.declared.table.DeviceTable.TheVariants.{Adapter}
use Rattle.cip_tables.specs.Step.{opening_table, config_fault}
use Rattle.cip_tables.specs.Run.{Runs}

-- a run from a table within the limits stays within them
abbrev pub RunsStayWithin : Type 0
RunsStayWithin =
    (old t : AdapterTable) (events : List Event) (outcomes : List Outcome) →
    IsWithinLimits old → Runs (Adapter old) events outcomes (Adapter t) → IsWithinLimits t

-- a run of a fresh device does too
abbrev pub FreshDevicesStayWithin : Type 0
FreshDevicesStayWithin =
    (made : Config) (events : List Event) (outcomes : List Outcome) (t : AdapterTable) →
    Runs (opening_table made) events outcomes (Adapter t) → IsWithinLimits t

-- no node has more openings in its second than the maker states
abbrev pub FreshDevicesOpenWithin : Type 0
FreshDevicesOpenWithin =
    (made : Config) (events : List Event) (outcomes : List Outcome) (t : AdapterTable) →
    Runs (opening_table made) events outcomes (Adapter t) → OpensWithinLimits t

-- in a run of a fresh device without a fault, while fewer connections of an application type are established than it
-- has places, neither check 15 nor 16 refuses another of this type for want of a place
abbrev pub TypesHavePlaces : Type 0
TypesHavePlaces =
    (made : Config) (events : List Event) (outcomes : List Outcome) (t : AdapterTable) (places : Places) (kind : Kind) (triad : Triad) →
    config_fault made ≡ None → Runs (opening_table made) events outcomes (Adapter t) → t.profile.limits.places ≡ Some places →
    kind_count t.rows kind < places_of places kind →
    (lacks_capacity (view_of t triad) ≡ false) × (has_no_place t.profile.limits.places t.rows kind ≡ false)
