-- What a station has counted and noted of a connection or a slot, beside its device's table, as JSON (RFC 8259).
use Rattle.std.specs.Prelude.{ℕ, List, [], ◌++◌, codes, decimal, Option, Some, None}
use Rattle.station_lines.specs.Watch.DatagramCounts.Gaps.{last_minute}
use Rattle.station_lines.specs.declared.watch.datagram_counts.counts.DatagramCounts.{DatagramCounts}
use Rattle.station_lines.specs.declared.watch.datagram_counts.gaps.GapMeter.{GapMeter}
use Rattle.station_lines.specs.declared.watch.datagram_counts.gaps.GapSums.{GapSums}
use Rattle.station_lines.specs.declared.watch.notes.StateNote.{StateNote}
use Rattle.station_lines.specs.declared.watch.traffic.CountedConnection.{CountedConnection}

-- those that arrived in their size
abbrev pub arrived_text : DatagramCounts → List ℕ
arrived_text counts =
    codes ",\"received\":" ++ (decimal counts.received
    ++ (codes ",\"applied\":" ++ (decimal counts.applied
    ++ (codes ",\"duplicate\":" ++ (decimal counts.duplicate
    ++ (codes ",\"old\":" ++ decimal counts.old))))))

-- those that did not arrive, or in a wrong size, and those that were sent
abbrev pub missed_text : DatagramCounts → List ℕ
missed_text counts =
    codes ",\"lost\":" ++ (decimal counts.lost
    ++ (codes ",\"wrong_size\":" ++ (decimal counts.wrong_size
    ++ (codes ",\"sent\":" ++ decimal counts.sent))))

abbrev pub traffic_text : DatagramCounts → List ℕ
traffic_text counts = arrived_text counts ++ missed_text counts

-- how many gaps there were, their sum, the sum of the steps from each to the next, and the longest one
abbrev pub sums_text : GapSums → List ℕ
sums_text sums =
    codes "\"count\":" ++ (decimal sums.count
    ++ (codes ",\"sum_ms\":" ++ (decimal sums.sum_ms
    ++ (codes ",\"moved_ms\":" ++ (decimal sums.moved_ms
    ++ (codes ",\"greatest_ms\":" ++ decimal sums.greatest_ms))))))

-- those of the last minute, and the end of the gaps
abbrev pub minute_text : GapSums → List ℕ
minute_text sums = codes ",\"minute\":{" ++ (sums_text sums ++ codes "}}")

abbrev pub gaps_text : ℕ → GapMeter → List ℕ
gaps_text now gaps = codes ",\"gaps\":{" ++ (sums_text gaps.whole ++ minute_text (last_minute now gaps))

abbrev pub counted_text : ℕ → CountedConnection → List ℕ
counted_text now row = traffic_text row.counts ++ gaps_text now row.gaps

-- when it timed out last
abbrev pub last_text : Option ℕ → List ℕ
last_text None = []
last_text (Some ms) = codes ",\"last_time_out_ms\":" ++ decimal ms

-- since when it has its state, and how often it timed out
abbrev pub note_text : StateNote → List ℕ
note_text note =
    codes ",\"since_ms\":" ++ (decimal note.since_ms
    ++ (codes ",\"time_outs\":" ++ (decimal note.time_outs ++ last_text note.last_time_out_ms)))

abbrev pub noted_text : ℕ → CountedConnection → List ℕ
noted_text now row = note_text row.note ++ counted_text now row

-- what was noted and counted of a connection or slot until this time, if it is known
abbrev pub row_text : ℕ → Option CountedConnection → List ℕ
row_text now None = []
row_text now (Some row) = noted_text now row
