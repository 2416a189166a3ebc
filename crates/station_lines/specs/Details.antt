-- The lines of the call `status` behind those of the state: a scanner's mode, what was counted of each connection and slot besides,
-- and why a slot is not open.
use Rattle.std.specs.Prelude.{ℕ, ◌*◌, ◌-◌, ◌/◌, ◌^◌, ◌==◌, min, if◌then◌else◌, Bool, true, false, List, [], ◌∷◌, ◌++◌, slice_get, Option, Some, None, codes, decimal, zero, suc}
use Rattle.adapter_table.specs.declared.report.ConnectionReport.{ConnectionReport}
use Rattle.cip_tables.specs.declared.table.DeviceTable.{DeviceTable}
use Rattle.cip_tables.specs.declared.table.DeviceTable.TheVariants.{Adapter, Scanner}
use Rattle.cip_tables.specs.States.{connection_in}
use Rattle.cip_types.specs.declared.names.Node.{Node}
use Rattle.station_lines.specs.Watch.DatagramCounts.Gaps.{last_minute}
use Rattle.station_lines.specs.declared.watch.datagram_counts.counts.DatagramCounts.{DatagramCounts}
use Rattle.station_lines.specs.declared.watch.datagram_counts.gaps.GapMeter.{GapMeter}
use Rattle.station_lines.specs.declared.watch.datagram_counts.gaps.GapSums.{GapSums}
use Rattle.station_lines.specs.declared.points.EventMoment.{EventMoment}
use Rattle.station_lines.specs.declared.points.PointKind.{PointKind}
use Rattle.station_lines.specs.declared.points.PointKind.TheVariants.{Output, Image}
use Rattle.station_lines.specs.declared.points.WatchedPoint.{WatchedPoint}
use Rattle.station_lines.specs.Status.{id_text, moment_text, point_head, status_lines}
use Rattle.station_lines.specs.Reasons.{tenths_text, why_text}
use Rattle.station_lines.specs.Watch.Traffic.{TrafficSeen, counted_of}
use Rattle.station_lines.specs.Watch.Waits.{wait_at}
use Rattle.station_lines.specs.declared.watch.notes.StateNote.{StateNote}
use Rattle.station_lines.specs.declared.watch.traffic.CountedConnection.{CountedConnection}
use Rattle.station_lines.specs.declared.watch.waits.SlotWait.{SlotWait}
use Rattle.station_lines.specs.declared.watch.waits.SlotWait.TheVariants as wait

-- THE MODE OF A SCANNER

abbrev pub mode_name : Bool → List ℕ
mode_name true = codes "run"
mode_name false = codes "idle"

abbrev pub said_mode : EventMoment → Bool → List ℕ
said_mode at run = moment_text at ++ (codes "mode " ++ (mode_name run ++ codes "\n"))

abbrev pub mode_line : EventMoment → DeviceTable → List ℕ
mode_line at (Adapter t) = []
mode_line at (Scanner t) = said_mode at t.run

-- WHAT WAS COUNTED

-- the tenths of a mean
abbrev pub mean_tenths : (sum count : ℕ) → ℕ
mean_tenths sum count = if count == 0 then 0 else min (sum * 10) (2 ^ 64 - 1) / count

abbrev pub count_text : List ℕ → ℕ → List ℕ
count_text word count = word ++ decimal count

abbrev pub mean_text : List ℕ → (sum count : ℕ) → List ℕ
mean_text word sum count = word ++ tenths_text (mean_tenths sum count)

-- gaps in milliseconds: how many, mean, longest and jitter, which is the mean step from each to the next
abbrev pub gaps_text : List ℕ → GapSums → List ℕ
gaps_text word sums =
    count_text word sums.count
    ++ (mean_text (codes " mean ") sums.sum_ms sums.count
    ++ (count_text (codes " longest ") sums.greatest_ms
    ++ mean_text (codes " jitter ") sums.moved_ms sums.count))

abbrev pub minute_text : ℕ → GapMeter → List ℕ
minute_text now gaps = gaps_text (codes " minute ") (last_minute now gaps)

-- since when it has its state; what was sent, and what came in a wrong size
abbrev pub since_text : (since : ℕ) → DatagramCounts → List ℕ
since_text since counts =
    codes " since " ++ (decimal since
    ++ (codes " sent " ++ (decimal counts.sent
    ++ (codes " wrong-size " ++ decimal counts.wrong_size))))

-- a dash for no time
abbrev pub time_text : Option ℕ → List ℕ
time_text None = codes "-"
time_text (Some ms) = decimal ms

abbrev pub time_outs_front : ℕ → List ℕ
time_outs_front count = codes " time-outs " ++ (decimal count ++ codes " last ")

-- how often it timed out, and when last
abbrev pub time_outs_text : StateNote → List ℕ
time_outs_text note = time_outs_front note.time_outs ++ (time_text note.last_time_out_ms ++ codes "\n")

abbrev pub entry_text : (now : ℕ) → CountedConnection → List ℕ
entry_text now entry =
    since_text entry.note.since_ms entry.counts
    ++ (minute_text now entry.gaps
    ++ (gaps_text (codes " whole ") entry.gaps.whole
    ++ time_outs_text entry.note))

-- THE CONNECTIONS OF AN ADAPTER

abbrev pub connection_gaps : EventMoment → CountedConnection → List ℕ
connection_gaps at entry = moment_text at ++ (codes "gaps connection " ++ (id_text entry.id ++ entry_text at.ms entry))

abbrev pub gaps_at : EventMoment → List CountedConnection → Option ConnectionReport → List ℕ
gaps_at at connections None = []
gaps_at at connections (Some report) = connection_gaps at (counted_of at.ms connections report)

-- the lines of the connections at the first places
abbrev pub gaps_to : EventMoment → DeviceTable → List CountedConnection → ℕ → List ℕ
gaps_to at table connections zero = []
gaps_to at table connections (suc place) = gaps_to at table connections place ++ gaps_at at connections (connection_in table place)

-- the lines of all, of which there are at most 64
unfoldable pub gaps_lines : EventMoment → DeviceTable → List CountedConnection → List ℕ
gaps_lines at table connections = gaps_to at table connections 64

-- THE SLOTS OF A SCANNER

abbrev pub slot_gaps : EventMoment → ℕ → CountedConnection → List ℕ
slot_gaps at number entry = moment_text at ++ (count_text (codes "gaps slot ") number ++ entry_text at.ms entry)

abbrev pub why_said : EventMoment → ℕ → Node → StateNote → SlotWait → List ℕ
why_said at number target note awaited = point_head at (codes "why slot ") number ++ (why_text at.ms target note awaited ++ codes "\n")

-- why a slot is not open: no line of one that is, or whose request is on its way
abbrev pub why_line : EventMoment → ℕ → Node → StateNote → SlotWait → List ℕ
why_line at number target note wait.Nothing = []
why_line at number target note other = why_said at number target note other

abbrev pub slot_entry : EventMoment → ℕ → Node → SlotWait → CountedConnection → List ℕ
slot_entry at number target awaited entry = slot_gaps at number entry ++ why_line at number target entry.note awaited

abbrev pub slot_detail : EventMoment → ℕ → Node → SlotWait → Option CountedConnection → List ℕ
slot_detail at number target awaited None = []
slot_detail at number target awaited (Some entry) = slot_entry at number target awaited entry

-- of a point: nothing of an output
abbrev pub point_detail : EventMoment → DeviceTable → List CountedConnection → ℕ → PointKind → List ℕ
point_detail at table connections point Output = []
point_detail at table connections point (Image terms) =
    slot_detail at point terms.target (wait_at table point terms.target) (slice_get connections point)

abbrev pub points_details : EventMoment → DeviceTable → List CountedConnection → List WatchedPoint → List ℕ
points_details at table connections [] = []
points_details at table connections (watched ∷ others) =
    point_detail at table connections watched.point watched.kind ++ points_details at table connections others

-- ALL

-- of a device's table, and of a copy of it
abbrev pub details_of : EventMoment → DeviceTable → DeviceTable → List CountedConnection → List WatchedPoint → List ℕ
details_of at copy table connections points =
    mode_line at copy ++ (gaps_lines at table connections ++ points_details at copy connections points)

abbrev pub details_text : EventMoment → DeviceTable → List CountedConnection → List WatchedPoint → List ℕ
details_text at table connections points = details_of at table table connections points

-- the lines of the call `status`: the state, and the details
abbrev pub status_text : EventMoment → DeviceTable → TrafficSeen → List WatchedPoint → List ℕ
status_text at table traffic points =
    status_lines at table traffic.totals traffic.connections points ++ details_text at table traffic.connections points
