-- What a valid profile says that no station can serve. Slots are numbered from 0.
use Rattle.std.specs.Prelude.{ℕ, ◌+◌, ◌==◌, ◌&&◌, if◌then◌else◌, Bool, true, false, List, [], ◌∷◌, position, Option, Some, None}
use Rattle.cip_types.specs.declared.names.Node.{Node}
use Rattle.cip_productions.specs.declared.kind.Kind.{Kind}
use Rattle.cip_productions.specs.declared.kind.Kind.TheVariants.{ExclusiveOwner}
use Rattle.adapter_table.specs.declared.profile.Description.{Description}
use Rattle.scanner_table.specs.declared.profile.SlotConfig.{SlotConfig}
use Rattle.cip_tables.specs.declared.table.Config.{Config}
use Rattle.cip_tables.specs.declared.table.Config.TheVariants.{Adapter, Scanner}
use Rattle.station_setup.specs.declared.unservable.defect.StationDefect.{StationDefect}
use Rattle.station_setup.specs.declared.unservable.defect.StationDefect.TheVariants as defect

-- AN ADAPTER

-- the TCP port of its description, which it listens at, is none
abbrev pub adapter_defect : Option Description → Option StationDefect
adapter_defect None = None
adapter_defect (Some description) = if description.port == 0 then Some defect.NoPort else None

-- A SCANNER

-- the address of a station: that of its options, unless that is each address of the host, or that of its profile
abbrev pub own_node : Option Node → Node → Node
own_node None node = node
own_node (Some address) node = if address.0 == 0 then node else address

-- a slot's target is this address
abbrev pub is_target : Node → SlotConfig → Bool
is_target node slot = slot.target.0 == node.0

abbrev pub is_owner : Kind → Bool
is_owner ExclusiveOwner = true
is_owner other = false

-- two slots own one output of one target
abbrev pub owns_same : SlotConfig → SlotConfig → Bool
owns_same slot other = is_owner slot.kind && (is_owner other.kind && ((slot.target.0 == other.target.0) && (slot.consumed == other.consumed)))

-- a slot of this number and the first of the later ones that owns the same
abbrev pub pair_or : {A : Type 0} → (ℕ → A) → A → Option ℕ → A
pair_or found none None = none
pair_or found none (Some behind) = found behind

-- the first slot that owns an output which a later one owns too, and the first of these; the first slot has this number
abbrev pub shared_output : ℕ → List SlotConfig → Option (ℕ × ℕ)
shared_output index [] = None
shared_output index (slot ∷ slots) = pair_or (λ behind. Some (index, index + 1 + behind)) (shared_output (index + 1) slots) (position (owns_same slot) slots)

abbrev pub shared_of : Option (ℕ × ℕ) → Option StationDefect
shared_of None = None
shared_of (Some pair) = Some (defect.SharedOutput pair.1 pair.0)

abbrev pub shared_defect : List SlotConfig → Option StationDefect
shared_defect slots = shared_of (shared_output 0 slots)

-- the first slot whose target is the scanner itself, or else the first two that own one output
abbrev pub own_or_shared : List SlotConfig → Option ℕ → Option StationDefect
own_or_shared slots (Some slot) = Some (defect.OwnTarget slot)
own_or_shared slots None = shared_defect slots

abbrev pub slots_defect : List SlotConfig → Node → Option StationDefect
slots_defect slots node = own_or_shared slots (position (is_target node) slots)

-- A STATION

abbrev pub station_defect : Config → Option Node → Option StationDefect
station_defect (Adapter profile) address = adapter_defect profile.description
station_defect (Scanner profile) address = slots_defect profile.slots (own_node address profile.node)
