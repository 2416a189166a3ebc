-- Histories of several devices, told apart by their incarnation bytes.
use Rattle.std.specs.Prelude.{ℕ, ◌==◌, Bool, List, map}
use Rattle.cip_types.specs.declared.names.Node.{Node}
use Rattle.cip_events.specs.declared.event.Event.{Event}
use Rattle.cip_tables.specs.declared.table.Config.{Config}
use Rattle.cip_tables.specs.Step.{incarnation_of, opening_table}
use Rattle.device_lock.specs.Histories.{HistoryValue}
use Rattle.segment_world.specs.Configs.{node_of_config, opening_world}
use Rattle.segment_world.specs.World.{World}

-- A HISTORY

abbrev pub config_in : HistoryValue → Config
config_in h = h.config

abbrev pub events_in : HistoryValue → List Event
events_in h = h.events

-- the incarnation byte of the device
abbrev pub byte_in : HistoryValue → ℕ
byte_in h = incarnation_of (opening_table h.config)

-- its address
abbrev pub node_in : HistoryValue → Node
node_in h = node_of_config h.config

-- SEVERAL HISTORIES

abbrev pub configs_of : List HistoryValue → List Config
configs_of hs = map config_in hs

abbrev pub events_of_all : List HistoryValue → List (List Event)
events_of_all hs = map events_in hs

abbrev pub bytes_of : List HistoryValue → List ℕ
bytes_of hs = map byte_in hs

abbrev pub nodes_of : List HistoryValue → List Node
nodes_of hs = map node_of_config (configs_of hs)

-- the world that the devices were in before their first events
abbrev pub start_of : List HistoryValue → World
start_of hs = opening_world (configs_of hs)

-- the device has this address
abbrev pub has_node : ℕ → HistoryValue → Bool
has_node address h = (node_in h).0 == address
