-- What a station says of the streams of its port and of its slots.
use Rattle.std.specs.Prelude.{ℕ, ◌/◌, Bool, true, false, List, ◌++◌, codes, decimal, Option, Some, None}
use Rattle.cip_types.specs.declared.names.Node.{Node}
use Rattle.udp_runner.specs.declared.report.EndCause.{EndCause}
use Rattle.udp_runner.specs.declared.report.EndCause.TheVariants as ended
use Rattle.udp_runner.specs.declared.report.RefusalCause.{RefusalCause}
use Rattle.udp_runner.specs.declared.report.RefusalCause.TheVariants as refusal
use Rattle.udp_runner.specs.declared.report.PortReport.{PortReport}
use Rattle.udp_runner.specs.declared.report.PortReport.TheVariants as report
use Rattle.trace_words.specs.Words.{node_word}
use Rattle.udp_runner.specs.declared.groups.group.DataGroup.{DataGroup}
use Rattle.station_lines.specs.Reasons.{stream_words}
use Rattle.station_lines.specs.declared.watch.slots.Starved.{Starved}
use Rattle.station_lines.specs.declared.watch.slots.StarvedCause.{StarvedCause}
use Rattle.station_lines.specs.declared.watch.slots.StarvedCause.TheVariants as cause

-- STREAMS

-- a stream and its peer
abbrev pub stream_text : ℕ → Node → List ℕ
stream_text stream peer = codes "eip_station: stream " ++ (decimal stream ++ (codes " of " ++ node_word peer))

-- why a stream ended; an adapter's may be silent for so many seconds
abbrev pub ending_text : ℕ → EndCause → List ℕ
ending_text silent ended.Cut = codes "its peer cut it"
ending_text silent ended.Silent = codes "it was silent for " ++ (decimal silent ++ codes " s")
ending_text silent ended.Displaced = codes "a new one took its place"
ending_text silent ended.NoSession = codes "no session in time"
ending_text silent ended.SessionRefused = codes "its session was refused"
ending_text silent ended.Renewed = codes "a request was not answered in time"
ending_text silent ended.TooLong = codes "this station ended it, since a message of more than 2048 bytes came"
ending_text silent ended.NoMemory = codes "this station ended it, since there was no memory for a message"

-- when a target is tried again
abbrev pub retry_text : ℕ → List ℕ
retry_text ms = codes "; the next try is in " ++ (decimal (ms / 1000) ++ codes " s\n")

-- a connection found no place
abbrev pub full_text : Node → List ℕ
full_text peer = codes "eip_station: a connection of " ++ (node_word peer ++ codes " is refused: 16 streams are open\n")

-- a target refuses a stream, or does not answer
abbrev pub not_opened_text : Node → Bool → ℕ → List ℕ
not_opened_text peer refused ms = codes "eip_station: " ++ (node_word peer ++ (stream_words refused ++ retry_text ms))

-- why a stream did not open
abbrev pub refusal_text : Node → RefusalCause → List ℕ
refusal_text peer refusal.Full = full_text peer
refusal_text peer (refusal.Refused ms) = not_opened_text peer true ms
refusal_text peer (refusal.Unanswered ms) = not_opened_text peer false ms

-- a stream is open
abbrev pub opened_text : ℕ → Node → List ℕ
opened_text stream peer = stream_text stream peer ++ codes " is open\n"

-- a stream ended
abbrev pub ended_text : ℕ → ℕ → Node → EndCause → List ℕ
ended_text silent stream peer cause = stream_text stream peer ++ (codes " ended: " ++ (ending_text silent cause ++ codes "\n"))

-- the line of a report
abbrev pub report_text : ℕ → PortReport → List ℕ
report_text silent (report.Opened stream peer) = opened_text stream peer
report_text silent (report.Ended stream peer cause) = ended_text silent stream peer cause
report_text silent (report.NotOpened peer cause) = refusal_text peer cause

-- SLOTS

-- what to do for the data of a group, if the reply named one
abbrev pub remedy_text : Option DataGroup → List ℕ
remedy_text (Some group) = codes " came to " ++ (node_word group.address ++ (codes ": this host does not receive that group: ip address add " ++ (node_word group.address ++ codes "/32 dev INTERFACE autojoin\n")))
remedy_text None = codes " came: if this host does not receive its group: ip address add GROUP/32 dev INTERFACE autojoin\n"

-- the line of a slot whose data never came
abbrev pub unfed_text : ℕ → Node → Option DataGroup → List ℕ
unfed_text slot target group = codes "eip_station: slot " ++ (decimal slot ++ (codes ": no multicast datagram of " ++ (node_word target ++ remedy_text group)))

-- the line of a slot whose datagrams have another size than it takes
abbrev pub sizes_text : ℕ → ℕ → List ℕ
sizes_text came takes = codes " have " ++ (decimal came ++ (codes " bytes of data, and the slot takes " ++ (decimal takes ++ codes ": none is applied\n")))

abbrev pub missized_text : ℕ → Node → ℕ → ℕ → List ℕ
missized_text slot target came takes = codes "eip_station: slot " ++ (decimal slot ++ (codes ": the datagrams of " ++ (node_word target ++ sizes_text came takes)))

-- why a slot gets no data
abbrev pub starved_by : ℕ → Node → StarvedCause → List ℕ
starved_by slot target (cause.NoDatagram group) = unfed_text slot target group
starved_by slot target (cause.WrongSize came takes) = missized_text slot target came takes

-- the line of a slot that gets no data
abbrev pub starved_text : Starved → List ℕ
starved_text starved = starved_by starved.slot starved.target starved.cause

-- why no datagram of a group comes
abbrev pub unbound_port_text : ℕ → List ℕ
unbound_port_text port = codes " can be received: its UDP port " ++ (decimal port ++ codes " cannot be had, as where another program has it alone; it is tried again every 5 s\n")

-- the line of a group for which no socket can be bound
abbrev pub unbound_text : DataGroup → List ℕ
unbound_text group = codes "eip_station: no datagram of the group " ++ (node_word group.address ++ unbound_port_text group.port)
