-- Connections and slots in a snapshot, as JSON (RFC 8259).
use Rattle.std.specs.Prelude.{ℕ, Bool, true, false, List, ◌++◌, codes, decimal, Option, Some, None}
use Rattle.cip_productions.specs.declared.age.Age.{Age}
use Rattle.cip_productions.specs.declared.age.Age.TheVariants.{SinceOpening, SinceAccepted}
use Rattle.adapter_table.specs.declared.report.ConnectionReport.{ConnectionReport}
use Rattle.adapter_table.specs.declared.row.Mode.{Mode}
use Rattle.adapter_table.specs.declared.row.Mode.TheVariants as mode
use Rattle.scanner_table.specs.declared.report.SlotReport.{SlotReport}
use Rattle.scanner_table.specs.declared.report.SlotReport.TheVariants as slot
use Rattle.scanner_table.specs.declared.report.TargetReport.{TargetReport}
use Rattle.trace_words.specs.Words.{node_word}
use Rattle.page_feed.specs.Rows.{row_text}
use Rattle.station_lines.specs.declared.watch.traffic.CountedConnection.{CountedConnection}
use Rattle.trace_lines.specs.Kinds.{kind_word}

-- the mode of the newest data
abbrev pub mode_word : Option Mode → List ℕ
mode_word (Some mode.Run) = codes "run"
mode_word (Some mode.Idle) = codes "idle"
mode_word None = codes "none"

abbrev pub bool_word : Bool → List ℕ
bool_word true = codes "true"
bool_word false = codes "false"

abbrev pub age_ms : Age → ℕ
age_ms (SinceOpening ms) = ms.0
age_ms (SinceAccepted ms) = ms.0

-- a datagram was accepted
abbrev pub has_data : Age → Bool
has_data (SinceOpening ms) = false
has_data (SinceAccepted ms) = true

-- a connection of an adapter
abbrev pub connection_head : ConnectionReport → List ℕ
connection_head report = codes "{\"peer\":\"" ++ node_word report.peer

-- its kind and its points
abbrev pub kind_text : ConnectionReport → List ℕ
kind_text report =
    codes "\",\"kind\":\"" ++ (kind_word report.kind
    ++ (codes "\",\"consumed\":" ++ (decimal report.consumed
    ++ (codes ",\"produced\":" ++ (decimal report.produced
    ++ codes ",\"established\":")))))

abbrev pub established_text : Bool → List ℕ
established_text is = bool_word is ++ codes ",\"o_t_ms\":"

-- its packet intervals, its mode, the age of its data
abbrev pub mode_text : ConnectionReport → List ℕ
mode_text report =
    decimal report.o_t_api_ms
    ++ (codes ",\"t_o_ms\":" ++ (decimal report.t_o_api_ms
    ++ (codes ",\"mode\":\"" ++ (mode_word report.mode
    ++ (codes "\",\"age_ms\":" ++ (decimal (age_ms report.age)
    ++ (codes ",\"has_data\":" ++ bool_word (has_data report.age))))))))

abbrev pub connection_rest : ConnectionReport → List ℕ
connection_rest report = kind_text report ++ (established_text report.established ++ mode_text report)

-- a connection, without its end
abbrev pub begun_connection : ConnectionReport → List ℕ
begun_connection report = connection_head report ++ connection_rest report

abbrev pub connection_text : ConnectionReport → List ℕ
connection_text report = begun_connection report ++ codes "}"

-- a connection in the list of all, with what was counted of it
abbrev pub listed_text : ℕ → Option CountedConnection → ConnectionReport → List ℕ
listed_text now row report = begun_connection report ++ (row_text now row ++ codes "}")

-- the owner of an output, if it has one
abbrev pub owner_text : Option ConnectionReport → List ℕ
owner_text (Some report) = connection_text report
owner_text None = codes "null"

-- an established slot
abbrev pub target_text : TargetReport → List ℕ
target_text report =
    codes "\"established\",\"o_t_ms\":" ++ (decimal report.o_t_api_ms
    ++ (codes ",\"t_o_ms\":" ++ (decimal report.t_o_api_ms
    ++ (codes ",\"age_ms\":" ++ (decimal (age_ms report.age)
    ++ (codes ",\"has_data\":" ++ bool_word (has_data report.age)))))))

-- the state of a slot
abbrev pub state_text : SlotReport → List ℕ
state_text slot.Idle = codes "\"idle\""
state_text slot.Opening = codes "\"opening\""
state_text (slot.Established report) = target_text report
state_text slot.TimedOut = codes "\"timed_out\""
state_text slot.Closing = codes "\"closing\""
