-- What a snapshot says of a device, as JSON (RFC 8259): it is made of the device's table, its configuration and what was counted.
use Rattle.std.specs.Prelude.{ℕ, ◌^◌, ◌-◌, zero, suc, min, length, ◌==◌, if◌then◌else◌, Bool, true, false, List, [], ◌++◌, codes, decimal, slice_get, Option, Some, None}
use Rattle.adapter_table.specs.declared.profile.InputPoint.{InputPoint}
use Rattle.adapter_table.specs.declared.profile.OutputPoint.{OutputPoint}
use Rattle.adapter_table.specs.declared.report.ConnectionReport.{ConnectionReport}
use Rattle.cip_tables.specs.declared.table.Config.{Config}
use Rattle.cip_tables.specs.declared.table.Config.TheVariants as config
use Rattle.cip_tables.specs.declared.table.DeviceTable.{DeviceTable}
use Rattle.cip_tables.specs.declared.table.DeviceTable.TheVariants.{Adapter, Scanner}
use Rattle.cip_tables.specs.declared.totals.DeviceTotals.{DeviceTotals}
use Rattle.cip_tables.specs.States.{connection_in, totals_of}
use Rattle.cip_types.specs.declared.names.Node.{Node}
use Rattle.scanner_table.specs.declared.profile.SlotConfig.{SlotConfig}
use Rattle.trace_words.specs.Words.{node_word}
use Rattle.page_feed.specs.Connections.{listed_text}
use Rattle.page_feed.specs.declared.facts.StationFacts.{StationFacts}
use Rattle.page_feed.specs.declared.waits.SlotFacts.{SlotFacts}
use Rattle.page_feed.specs.Facts.{counts_text, moment_text}
use Rattle.page_feed.specs.Points.{inputs_text, output_at, outputs_text, slot_text, slots_in}
use Rattle.station_lines.specs.Watch.Waits.{wait_at}
use Rattle.station_lines.specs.declared.watch.traffic.CountedConnection.{CountedConnection}

-- what stands before the one at a place
abbrev pub separator : ℕ → List ℕ
separator place = if place == 0 then codes "" else codes ","

-- THE CONNECTIONS OF AN ADAPTER

-- a connection behind those before
abbrev pub placed_text : (now place : ℕ) → Option CountedConnection → Option ConnectionReport → List ℕ
placed_text now place row (Some report) = separator place ++ listed_text now row report
placed_text now place row None = []

abbrev pub connection_at_text : ℕ → List CountedConnection → DeviceTable → ℕ → List ℕ
connection_at_text now rows table place = placed_text now place (slice_get rows place) (connection_in table place)

-- the connections at the places below this one
abbrev pub connections_below : ℕ → List CountedConnection → DeviceTable → ℕ → List ℕ
connections_below now rows table zero = []
connections_below now rows table (suc place) = connections_below now rows table place ++ connection_at_text now rows table place

-- those at so many places, and the end of their array
abbrev pub connections_text : ℕ → List CountedConnection → DeviceTable → ℕ → List ℕ
connections_text now rows table most = connections_below now rows table most ++ codes "]"

abbrev pub all_outputs : List OutputPoint → DeviceTable → List ℕ
all_outputs outputs table = codes ",\"outputs\":[" ++ (outputs_text table outputs ++ codes "],\"inputs\":[")

abbrev pub all_inputs : List InputPoint → DeviceTable → List ℕ
all_inputs inputs table = inputs_text table inputs ++ codes "],\"connections\":["

-- its points and connections, which are at most 64
abbrev pub adapter_text : List OutputPoint → List InputPoint → ℕ → List CountedConnection → DeviceTable → List ℕ
adapter_text outputs inputs now rows table = all_outputs outputs table ++ (all_inputs inputs table ++ connections_text now rows table 64)

-- THE SLOTS OF A SCANNER

-- a slot behind those before
abbrev pub placed_slot : DeviceTable → ℕ → SlotConfig → List ℕ → SlotFacts → List ℕ
placed_slot table number config output facts = separator number ++ slot_text table number config output facts

-- what is known of a slot beside its device, by a copy of its table
abbrev pub facts_at : ℕ → List CountedConnection → DeviceTable → ℕ → Node → SlotFacts
facts_at now rows copy number target =
    record { target = target; wait = wait_at copy number target; row = slice_get rows number; now_ms = now }

-- a slot of a profile, with what a copy of the table says of its output and its wait
abbrev pub slot_with : ℕ → List CountedConnection → DeviceTable → DeviceTable → ℕ → Option SlotConfig → List ℕ
slot_with now rows copy table number (Some config) =
    placed_slot table number config (output_at (slots_in copy) number) (facts_at now rows copy number config.target)
slot_with now rows copy table number None = []

abbrev pub slot_at_text : List SlotConfig → ℕ → List CountedConnection → DeviceTable → DeviceTable → ℕ → List ℕ
slot_at_text configs now rows copy table number = slot_with now rows copy table number (slice_get configs number)

-- the slots of numbers below this one
abbrev pub slots_below : List SlotConfig → ℕ → List CountedConnection → DeviceTable → DeviceTable → ℕ → List ℕ
slots_below configs now rows copy table zero = []
slots_below configs now rows copy table (suc number) =
    slots_below configs now rows copy table number ++ slot_at_text configs now rows copy table number

abbrev pub slots_text : List SlotConfig → ℕ → List CountedConnection → DeviceTable → DeviceTable → List ℕ
slots_text configs now rows copy table = slots_below configs now rows copy table (min (length configs) (2 ^ 32 - 1))

abbrev pub array_text : List SlotConfig → ℕ → List CountedConnection → DeviceTable → DeviceTable → List ℕ
array_text configs now rows copy table = codes ",\"slots\":[" ++ (slots_text configs now rows copy table ++ codes "]")

-- whether the application of a scanner runs
abbrev pub run_text : Bool → List ℕ
run_text true = codes ",\"mode\":\"run\""
run_text false = codes ",\"mode\":\"idle\""

abbrev pub own_mode_text : DeviceTable → List ℕ
own_mode_text (Adapter t) = []
own_mode_text (Scanner t) = run_text t.run

-- its mode, and its slots with the outputs and waits of the table
abbrev pub scanner_text : List SlotConfig → ℕ → List CountedConnection → DeviceTable → List ℕ
scanner_text configs now rows table = own_mode_text table ++ array_text configs now rows table table

-- THE WHOLE

abbrev pub parts_text : Config → ℕ → List CountedConnection → DeviceTable → List ℕ
parts_text (config.Adapter profile) now rows table = adapter_text profile.outputs profile.inputs now rows table
parts_text (config.Scanner profile) now rows table = scanner_text profile.slots now rows table

-- its address
abbrev pub address_of : Config → Node
address_of (config.Adapter profile) = profile.node
address_of (config.Scanner profile) = profile.node

abbrev pub address_text : Node → List ℕ
address_text node = codes ",\"node\":\"" ++ (node_word node ++ codes "\"")

-- how much of a device is in use
abbrev pub in_use_text : DeviceTotals → List ℕ
in_use_text totals =
    codes ",\"totals\":{\"streams\":" ++ (decimal totals.streams
    ++ (codes ",\"sessions\":" ++ (decimal totals.sessions
    ++ (codes ",\"connections\":" ++ decimal totals.connections))))

abbrev pub totals_text : DeviceTotals → List ℕ
totals_text totals =
    in_use_text totals
    ++ (codes ",\"class_3\":" ++ (decimal totals.class3_connections
    ++ (codes ",\"ids_left\":" ++ (decimal totals.ids_left ++ codes "}"))))

abbrev pub front_text : Config → StationFacts → List ℕ
front_text given facts = moment_text facts ++ address_text (address_of given)

-- what a device of a configuration is at a moment, without the events, the beginning and the end of the object
abbrev pub device_text : Config → DeviceTable → StationFacts → List CountedConnection → List ℕ
device_text given table facts rows = front_text given facts ++ (parts_text given facts.ms rows table ++ (totals_text (totals_of table) ++ counts_text facts))
