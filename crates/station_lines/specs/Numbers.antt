-- The lines of the call `status --csv`: what was counted of each connection and slot, with a comma between two values.
use Rattle.std.specs.Prelude.{ℕ, zero, suc, List, [], ◌∷◌, ◌++◌, slice_get, Option, Some, None, codes, decimal}
use Rattle.adapter_table.specs.declared.report.ConnectionReport.{ConnectionReport}
use Rattle.cip_tables.specs.declared.table.DeviceTable.{DeviceTable}
use Rattle.cip_tables.specs.States.{connection_in}
use Rattle.cip_types.specs.declared.names.Node.{Node}
use Rattle.station_lines.specs.declared.points.EventMoment.{EventMoment}
use Rattle.station_lines.specs.declared.points.PointKind.{PointKind}
use Rattle.station_lines.specs.declared.points.PointKind.TheVariants.{Output, Image}
use Rattle.station_lines.specs.declared.points.WatchedPoint.{WatchedPoint}
use Rattle.station_lines.specs.declared.watch.traffic.CountedConnection.{CountedConnection}
use Rattle.station_lines.specs.Details.{mean_tenths}
use Rattle.station_lines.specs.Reasons.{tenths_text}
use Rattle.station_lines.specs.Status.{id_text}
use Rattle.station_lines.specs.Watch.Traffic.{TrafficSeen, counted_of}
use Rattle.trace_words.specs.Words.{node_word}

-- the names of the values
abbrev pub numbers_head : List ℕ
numbers_head = codes "csv,event,ms,connection,peer,sent,received,lost,jitter_ms,longest_ms,time_outs\n"

-- the number of the last event, and the time
abbrev pub numbers_front : EventMoment → List ℕ
numbers_front at = codes "csv," ++ (decimal at.number ++ (codes "," ++ (decimal at.ms ++ codes ",")))

-- what was sent, received and lost
abbrev pub counts_numbers : CountedConnection → List ℕ
counts_numbers entry = codes "," ++ (decimal entry.counts.sent ++ (codes "," ++ (decimal entry.counts.received ++ (codes "," ++ (decimal entry.counts.lost ++ codes ",")))))

-- the jitter: the mean step from each gap to the next, with tenths of a millisecond
abbrev pub jitter_number : CountedConnection → List ℕ
jitter_number entry = tenths_text (mean_tenths entry.gaps.whole.moved_ms entry.gaps.whole.count)

-- the longest gap, and how often it timed out
abbrev pub ends_numbers : CountedConnection → List ℕ
ends_numbers entry = codes "," ++ (decimal entry.gaps.whole.greatest_ms ++ (codes "," ++ (decimal entry.note.time_outs ++ codes "\n")))

-- the peer, the numbers, and the end of the line
abbrev pub numbers_rest : Node → CountedConnection → List ℕ
numbers_rest peer entry = codes "," ++ (node_word peer ++ (counts_numbers entry ++ (jitter_number entry ++ ends_numbers entry)))

-- THE CONNECTIONS OF AN ADAPTER

abbrev pub connection_numbers : EventMoment → Node → CountedConnection → List ℕ
connection_numbers at peer entry = numbers_front at ++ (codes "connection " ++ (id_text entry.id ++ numbers_rest peer entry))

abbrev pub numbers_at : EventMoment → List CountedConnection → Option ConnectionReport → List ℕ
numbers_at at connections None = []
numbers_at at connections (Some report) = connection_numbers at report.peer (counted_of at.ms connections report)

-- the lines of the connections at the first places
abbrev pub numbers_to : EventMoment → DeviceTable → List CountedConnection → ℕ → List ℕ
numbers_to at table connections zero = []
numbers_to at table connections (suc place) = numbers_to at table connections place ++ numbers_at at connections (connection_in table place)

-- the lines of all, of which there are at most 64
unfoldable pub connections_numbers : EventMoment → DeviceTable → List CountedConnection → List ℕ
connections_numbers at table connections = numbers_to at table connections 64

-- THE SLOTS OF A SCANNER

abbrev pub slot_numbers : EventMoment → ℕ → Node → CountedConnection → List ℕ
slot_numbers at number target entry = numbers_front at ++ (codes "slot " ++ (decimal number ++ numbers_rest target entry))

abbrev pub slot_numbers_of : EventMoment → ℕ → Node → Option CountedConnection → List ℕ
slot_numbers_of at number target None = []
slot_numbers_of at number target (Some entry) = slot_numbers at number target entry

-- of a point: nothing of an output
abbrev pub point_numbers : EventMoment → List CountedConnection → ℕ → PointKind → List ℕ
point_numbers at connections point Output = []
point_numbers at connections point (Image terms) = slot_numbers_of at point terms.target (slice_get connections point)

abbrev pub points_numbers : EventMoment → List CountedConnection → List WatchedPoint → List ℕ
points_numbers at connections [] = []
points_numbers at connections (watched ∷ others) = point_numbers at connections watched.point watched.kind ++ points_numbers at connections others

-- ALL

-- the lines of the call `status --csv`
abbrev pub numbers_text : EventMoment → DeviceTable → TrafficSeen → List WatchedPoint → List ℕ
numbers_text at table traffic points = numbers_head ++ (connections_numbers at table traffic.connections ++ points_numbers at traffic.connections points)
