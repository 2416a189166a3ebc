-- The lines of the call `status`: what a device says of itself, and what was counted of its datagrams.
use Rattle.std.specs.Prelude.{ℕ, Bool, true, false, List, [], ◌∷◌, ◌++◌, slice_get, Option, Some, None, codes, decimal, zero, suc}
use Rattle.std.specs.Int.{w32, to_be_bytes}
use Rattle.hex.specs.Hex.{encode_lower}
use Rattle.adapter_table.specs.declared.report.ConnectionReport.{ConnectionReport}
use Rattle.adapter_table.specs.declared.row.Mode.{Mode}
use Rattle.adapter_table.specs.declared.row.Mode.TheVariants as mode
use Rattle.cip_productions.specs.declared.age.Age.{Age}
use Rattle.cip_productions.specs.declared.age.Age.TheVariants.{SinceOpening, SinceAccepted}
use Rattle.cip_tables.specs.declared.table.DeviceTable.{DeviceTable}
use Rattle.cip_tables.specs.declared.totals.DeviceTotals.{DeviceTotals}
use Rattle.cip_tables.specs.States.{connection_in, owner_in, slot_in, totals_of}
use Rattle.scanner_table.specs.declared.report.SlotReport.{SlotReport}
use Rattle.scanner_table.specs.declared.report.SlotReport.TheVariants as slot
use Rattle.scanner_table.specs.declared.report.TargetReport.{TargetReport}
use Rattle.station_lines.specs.declared.points.EventMoment.{EventMoment}
use Rattle.station_lines.specs.declared.points.PointKind.{PointKind}
use Rattle.station_lines.specs.declared.points.PointKind.TheVariants.{Output, Image}
use Rattle.station_lines.specs.declared.points.SlotTerms.{SlotTerms}
use Rattle.station_lines.specs.declared.points.WatchedPoint.{WatchedPoint}
use Rattle.station_lines.specs.Watch.Traffic.{counted_of}
use Rattle.station_lines.specs.declared.watch.datagram_counts.counts.DatagramCounts.{DatagramCounts}
use Rattle.station_lines.specs.declared.watch.traffic.CountedConnection.{CountedConnection}
use Rattle.station_lines.specs.declared.watch.traffic.TrafficTotals.{TrafficTotals}
use Rattle.trace_words.specs.Words.{node_word}
use Rattle.trace_lines.specs.Kinds.{kind_word}

-- WORDS

abbrev pub state_word : Bool → List ℕ
state_word true = codes "open"
state_word false = codes "timed-out"

-- a dash for no mode
abbrev pub mode_word : Option Mode → List ℕ
mode_word (Some mode.Idle) = codes "idle"
mode_word (Some mode.Run) = codes "run"
mode_word None = codes "-"

-- PARTS OF A LINE

-- the number of the last event, and the time in milliseconds
abbrev pub moment_text : EventMoment → List ℕ
moment_text at = decimal at.number ++ (codes " at " ++ (decimal at.ms ++ codes " "))

-- packet intervals in milliseconds: from originator to target, and back
abbrev pub apis_text : ℕ → ℕ → List ℕ
apis_text o_t_api_ms t_o_api_ms = codes " api " ++ (decimal o_t_api_ms ++ (codes " " ++ decimal t_o_api_ms))

-- the milliseconds since the newest datagram was accepted, or since the opening
abbrev pub age_text : Age → List ℕ
age_text (SinceAccepted ms) = codes " age " ++ decimal ms.0
age_text (SinceOpening ms) = codes " opened " ++ decimal ms.0

abbrev pub counts_text : DatagramCounts → List ℕ
counts_text counts =
    codes " received " ++ (decimal counts.received
    ++ (codes " applied " ++ (decimal counts.applied
    ++ (codes " duplicate " ++ (decimal counts.duplicate
    ++ (codes " old " ++ (decimal counts.old
    ++ (codes " lost " ++ (decimal counts.lost ++ codes "\n")))))))))

abbrev pub id_text : Option ℕ → List ℕ
id_text (Some id) = encode_lower (to_be_bytes w32 id)
id_text None = codes "-"

-- TOTALS

abbrev pub use_text : DeviceTotals → List ℕ
use_text totals =
    codes "status streams " ++ (decimal totals.streams
    ++ (codes " sessions " ++ (decimal totals.sessions
    ++ (codes " connections " ++ (decimal totals.connections
    ++ (codes " class-3 " ++ (decimal totals.class3_connections
    ++ (codes " ids " ++ decimal totals.ids_left))))))))

abbrev pub traffic_text : TrafficTotals → List ℕ
traffic_text totals =
    codes " received " ++ (decimal totals.received
    ++ (codes " sent " ++ (decimal totals.sent
    ++ (codes " applied " ++ (decimal totals.applied
    ++ (codes " lost " ++ (decimal totals.lost ++ codes "\n")))))))

-- what of the device is in use, and how many datagrams there were
abbrev pub totals_line : EventMoment → DeviceTotals → TrafficTotals → List ℕ
totals_line at device traffic = moment_text at ++ (use_text device ++ traffic_text traffic)

-- CONNECTIONS OF AN ADAPTER

-- up to the O->T id
abbrev pub connection_head : EventMoment → Option ℕ → List ℕ
connection_head at id = moment_text at ++ (codes "connection " ++ (id_text id ++ codes " "))

abbrev pub kind_text : ConnectionReport → List ℕ
kind_text report = codes " " ++ (kind_word report.kind ++ (codes " " ++ (decimal report.consumed ++ (codes " " ++ decimal report.produced))))

abbrev pub life_text : ConnectionReport → List ℕ
life_text report = codes " " ++ (state_word report.established ++ (codes " " ++ mode_word report.mode))

-- kind, points, packet intervals, state and mode
abbrev pub purpose_text : ConnectionReport → List ℕ
purpose_text report = kind_text report ++ (apis_text report.o_t_api_ms report.t_o_api_ms ++ life_text report)

abbrev pub connection_line : EventMoment → CountedConnection → ConnectionReport → List ℕ
connection_line at counted report =
    connection_head at counted.id ++ (node_word report.peer ++ (purpose_text report ++ (age_text report.age ++ counts_text counted.counts)))

-- the line of what was counted of a connection, and of what the device says of it
abbrev pub connection_at : EventMoment → List CountedConnection → Option ConnectionReport → List ℕ
connection_at at connections None = []
connection_at at connections (Some report) = connection_line at (counted_of at.ms connections report) report

-- the lines of the connections at the first places
abbrev pub lines_to : EventMoment → DeviceTable → List CountedConnection → ℕ → List ℕ
lines_to at table connections zero = []
lines_to at table connections (suc place) =
    lines_to at table connections place ++ connection_at at connections (connection_in table place)

-- the lines of all, of which there are at most 64
unfoldable pub connection_lines : EventMoment → DeviceTable → List CountedConnection → List ℕ
connection_lines at table connections = lines_to at table connections 64

-- POINTS

-- the beginning of a point's line: its word, and its number
abbrev pub point_head : EventMoment → List ℕ → ℕ → List ℕ
point_head at word point = moment_text at ++ (word ++ (decimal point ++ codes " "))

-- an owner by its peer, its mode and the age of its data
abbrev pub owner_text : Option ConnectionReport → List ℕ
owner_text None = codes "none"
owner_text (Some owner) = node_word owner.peer ++ (codes " " ++ (mode_word owner.mode ++ age_text owner.age))

abbrev pub owner_line : EventMoment → ℕ → Option ConnectionReport → List ℕ
owner_line at point owner = point_head at (codes "owner ") point ++ (owner_text owner ++ codes "\n")

-- the configuration that the path of a slot's connection names; a dash for none
abbrev pub config_text : Option ℕ → List ℕ
config_text (Some instance) = decimal instance
config_text None = codes "-"

-- kind and points of a slot's connection
abbrev pub slot_kind_text : SlotTerms → List ℕ
slot_kind_text terms =
    codes " " ++ (kind_word terms.kind ++ (codes " " ++ (decimal terms.consumed ++ (codes " " ++ (decimal terms.produced ++ codes " config ")))))

-- target, kind, points and configuration
abbrev pub terms_text : SlotTerms → List ℕ
terms_text terms = node_word terms.target ++ (slot_kind_text terms ++ (config_text terms.config ++ codes " "))

-- an established slot by its packet intervals and the age of its data
abbrev pub target_text : TargetReport → List ℕ
target_text target = codes "established" ++ (apis_text target.o_t_api_ms target.t_o_api_ms ++ age_text target.age)

abbrev pub slot_state : SlotReport → List ℕ
slot_state slot.Idle = codes "idle"
slot_state slot.Opening = codes "opening"
slot_state (slot.Established target) = target_text target
slot_state slot.TimedOut = codes "timed-out"
slot_state slot.Closing = codes "closing"

abbrev pub slot_line : EventMoment → ℕ → SlotTerms → SlotReport → DatagramCounts → List ℕ
slot_line at number terms report counts = point_head at (codes "slot ") number ++ (terms_text terms ++ (slot_state report ++ counts_text counts))

abbrev pub slot_of : EventMoment → ℕ → SlotTerms → Option SlotReport → Option CountedConnection → List ℕ
slot_of at number terms None counted = []
slot_of at number terms (Some report) None = []
slot_of at number terms (Some report) (Some counted) = slot_line at number terms report counted.counts

-- the owner of an output, or the state of a slot
abbrev pub point_status : EventMoment → DeviceTable → List CountedConnection → ℕ → PointKind → List ℕ
point_status at table connections point Output = owner_line at point (owner_in table point)
point_status at table connections point (Image terms) = slot_of at point terms (slot_in table point) (slice_get connections point)

abbrev pub points_status : EventMoment → DeviceTable → List CountedConnection → List WatchedPoint → List ℕ
points_status at table connections [] = []
points_status at table connections (watched ∷ others) =
    point_status at table connections watched.point watched.kind ++ points_status at table connections others

-- ALL

-- one line of the totals, one for each connection of an adapter, one for each output or slot
abbrev pub status_lines : EventMoment → DeviceTable → TrafficTotals → List CountedConnection → List WatchedPoint → List ℕ
status_lines at table totals connections points =
    totals_line at (totals_of table) totals ++ (connection_lines at table connections ++ points_status at table connections points)
