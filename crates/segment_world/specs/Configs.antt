-- The configurations of a world, their first fault, and the world that they open.
use Rattle.std.specs.Prelude.{◌≡◌, ℕ, ◌==◌, ◌||◌, if◌then◌else◌, Bool, false, List, [], ◌∷◌, ◌++◌, map, Option, Some, None}
use Rattle.std.specs.List.{list_any}
use Rattle.cip_types.specs.declared.names.Node.{Node}
use Rattle.cip_events.specs.declared.profile_fault.ProfileFault.{ProfileFault}
use Rattle.cip_tables.specs.declared.table.Config.{Config}
use Rattle.cip_tables.specs.Step.{opening_table, config_fault, node_of, incarnation_of}
use Rattle.segment_world.specs.declared.configs.DeviceKey.{DeviceKey}
use Rattle.segment_world.specs.declared.configs.DeviceKey.TheVariants.{Incarnation, Address}
use Rattle.segment_world.specs.declared.fault.WorldFault.{WorldFault}
use Rattle.segment_world.specs.declared.fault.WorldFault.TheVariants.{SameIncarnation, SameNode, Profile, OutOfMemory}
use Rattle.segment_world.specs.World.{World}

abbrev pub node_of_config : Config → Node
node_of_config config = node_of (opening_table config)

-- the byte that begins the ids of a device, or its address as a number
abbrev pub key_in : DeviceKey → Config → ℕ
key_in Incarnation config = incarnation_of (opening_table config)
key_in Address config = (node_of_config config).0

-- the world of fresh devices: nothing was sent, and no stream was opened
abbrev pub opening_world : List Config → World
opening_world configs = record { nodes = map node_of_config configs; tables = map opening_table configs; sent = []; streams = [] }

-- the world after a fresh device has joined it, behind all others
abbrev pub with_device : Config → World → World
with_device config w = record w { nodes = w.nodes ++ node_of_config config ∷ []; tables = w.tables ++ opening_table config ∷ [] }

-- two configurations have the same key
unfoldable pub any_twice : DeviceKey → List Config → Bool
any_twice key [] = false
any_twice key (config ∷ configs) = list_any (λ other. key_in key other == key_in key config) configs || any_twice key configs

abbrev pub fault_or : Option ProfileFault → Option ProfileFault → Option ProfileFault
fault_or None later = later
fault_or (Some fault) later = Some fault

-- the fault of the first configuration that has one
unfoldable pub first_fault : List Config → Option ProfileFault
first_fault [] = None
first_fault (config ∷ configs) = fault_or (config_fault config) (first_fault configs)

abbrev pub profile_fault_of : Option ProfileFault → Option WorldFault
profile_fault_of None = None
profile_fault_of (Some fault) = Some (Profile fault)

-- the first fault of the configurations of a world: two incarnations are equal, two addresses are equal, or a profile has a
-- fault
abbrev pub world_fault : List Config → Option WorldFault
world_fault configs = if any_twice Incarnation configs then Some SameIncarnation else if any_twice Address configs then Some SameNode else profile_fault_of (first_fault configs)

-- `OutOfMemory` comes only if the configurations have no fault
abbrev pub IsRefused : Option WorldFault → WorldFault → Type 0
IsRefused wrong OutOfMemory = wrong ≡ None
IsRefused wrong fault = wrong ≡ Some fault
