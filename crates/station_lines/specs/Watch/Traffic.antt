-- What a station counts of its datagrams: those of each connection, and all (Volume 2, chapter 2, sequenced address item).
use Rattle.std.specs.Prelude.{ℕ, zero, suc, ◌==◌, ◌&&◌, if◌then◌else◌, Bool, true, false, List, [], ◌∷◌, ◌++◌, length, map, find, slice_get, slice_set, Option, Some, None}
use Rattle.std.specs.List.{list_any}
use Rattle.cip_types.specs.declared.names.Node.{Node}
use Rattle.cip_events.specs.declared.event.Answer.{Answer}
use Rattle.cip_events.specs.declared.event.Delivery.{Delivery}
use Rattle.cip_events.specs.declared.event.Delivery.TheVariants as delivery
use Rattle.cip_events.specs.declared.event.Event.{Event}
use Rattle.cip_events.specs.declared.event.Event.TheVariants as event
use Rattle.cip_events.specs.declared.event.Notice.{Notice}
use Rattle.cip_events.specs.declared.event.Notice.TheVariants as notice
use Rattle.cip_events.specs.declared.event.OutgoingDatagram.{OutgoingDatagram}
use Rattle.cip_events.specs.declared.event.Reason.{Reason}
use Rattle.cip_events.specs.declared.event.Verdict.{Verdict}
use Rattle.cip_events.specs.declared.event.Verdict.TheVariants as verdict
use Rattle.cip_events.specs.declared.slot_phase.SlotPhase.TheVariants as phase
use Rattle.cip_events.specs.Phases.{phase_number}
use Rattle.adapter_table.specs.declared.report.ConnectionReport.{ConnectionReport}
use Rattle.cip_tables.specs.declared.table.Config.{Config}
use Rattle.cip_tables.specs.declared.table.Config.TheVariants as config
use Rattle.cip_tables.specs.declared.table.DeviceTable.{DeviceTable}
use Rattle.cip_tables.specs.States.{connection_in, slot_in}
use Rattle.scanner_table.specs.declared.profile.SlotConfig.{SlotConfig}
use Rattle.scanner_table.specs.declared.report.SlotReport.{SlotReport}
use Rattle.scanner_table.specs.declared.report.SlotReport.TheVariants as slot
use Rattle.station_lines.specs.Watch.DatagramCounts.Counts.{counted, is_accepted, missed, no_counts, sent_counts, with_more}
use Rattle.station_lines.specs.Watch.DatagramCounts.Gaps.{came, fresh_meter}
use Rattle.station_lines.specs.declared.watch.datagram_counts.gaps.GapMeter.{GapMeter}
use Rattle.udp_runner.specs.declared.report.PortReport.{PortReport}
use Rattle.station_lines.specs.Watch.Groups.{u32_behind}
use Rattle.station_lines.specs.Watch.Notes.{changed_note, note_since, opened_note, refused_note, stream_after, timed_out_note}
use Rattle.station_lines.specs.Watch.Peers.{is_change, is_node}
use Rattle.station_lines.specs.declared.watch.notes.StateNote.{StateNote}
use Rattle.station_lines.specs.declared.watch.traffic.CountedConnection.{CountedConnection}
use Rattle.station_lines.specs.declared.watch.traffic.ArrivedDatagram.{ArrivedDatagram}
use Rattle.station_lines.specs.declared.watch.traffic.SentAs.{SentAs}
use Rattle.station_lines.specs.declared.watch.traffic.TrafficTotals.{TrafficTotals}

-- what was counted: of the connections of an adapter, or of the slots of a scanner in the order of their numbers; and of all
pub record TrafficSeen : Type 0 where
  pub connections : List CountedConnection
  pub totals : TrafficTotals

-- A BEGINNING

-- a connection whose counts begin
abbrev pub begun : Option Node → Option ℕ → Option SentAs → StateNote → CountedConnection
begun sender id sends note = record { sender = sender; id = id; sends = sends; counts = no_counts; gaps = fresh_meter; note = note }

abbrev pub fresh_slot : SlotConfig → CountedConnection
fresh_slot slot = begun (Some slot.target) None None (note_since 0)

abbrev pub fresh_connections : Config → List CountedConnection
fresh_connections (config.Adapter profile) = []
fresh_connections (config.Scanner profile) = map fresh_slot profile.slots

-- nothing was counted of a device of this configuration
abbrev pub fresh_traffic : Config → TrafficSeen
fresh_traffic configured = record {
  connections = fresh_connections configured;
  totals = record { received = 0; sent = 0; applied = 0; lost = 0 };
}

-- A DATAGRAM AT ITS CONNECTION

-- a datagram of this peer may be of this sender: of an adapter's connections no two have one id
abbrev pub is_from : Node → Option Node → Bool
is_from peer None = true
is_from peer (Some target) = target.0 == peer.0

-- this is the id
abbrev pub is_id : Option ℕ → ℕ → Bool
is_id None expected = false
is_id (Some id) expected = id == expected

-- the datagram is for the connection
abbrev pub is_for : ArrivedDatagram → CountedConnection → Bool
is_for datagram connection = is_from datagram.peer connection.sender && is_id connection.id datagram.id

-- the gaps of a connection after a datagram, if that was accepted
abbrev pub accepted_at : ArrivedDatagram → GapMeter → GapMeter
accepted_at datagram gaps = if is_accepted datagram.delivery then came datagram.ms gaps else gaps

-- the connection after a datagram, which is counted if it is for this one
abbrev pub counted_one : ArrivedDatagram → CountedConnection → CountedConnection
counted_one datagram connection =
    if is_for datagram connection then record connection {
      counts = counted connection.counts datagram.delivery datagram.number;
      gaps = accepted_at datagram connection.gaps;
    }
    else connection

-- the sequence numbers that a datagram skipped at its connection
abbrev pub lost_by : ArrivedDatagram → CountedConnection → ℕ
lost_by datagram connection =
    if is_accepted datagram.delivery then missed connection.counts.newest datagram.number else 0

abbrev pub lost_of : ArrivedDatagram → Option CountedConnection → ℕ
lost_of datagram None = 0
lost_of datagram (Some connection) = lost_by datagram connection

abbrev pub after_datagram : ArrivedDatagram → TrafficSeen → TrafficSeen
after_datagram datagram traffic = record {
  connections = map (counted_one datagram) traffic.connections;
  totals = record traffic.totals { lost = with_more traffic.totals.lost (lost_of datagram (find (is_for datagram) traffic.connections)) };
}

-- A DATAGRAM THAT ARRIVED

-- its connection id is behind 6 bytes, its sequence number behind 10
abbrev pub received_with : ℕ → Node → Delivery → Option ℕ → Option ℕ → Option ArrivedDatagram
received_with ms peer result None number = None
received_with ms peer result (Some id) None = None
received_with ms peer result (Some id) (Some number) = Some (record { peer = peer; id = id; number = number; delivery = result; ms = ms })

abbrev pub received_datagram : ℕ → Node → List ℕ → Delivery → Option ArrivedDatagram
received_datagram ms peer bytes result = received_with ms peer result (u32_behind bytes 6) (u32_behind bytes 10)

abbrev pub applied_by : Delivery → ℕ
applied_by delivery.Applied = 1
applied_by other = 0

-- the totals after a datagram with this result arrived
abbrev pub totals_after : TrafficTotals → Delivery → TrafficTotals
totals_after totals result = record totals { received = with_more totals.received 1; applied = with_more totals.applied (applied_by result) }

abbrev pub counted_at : Option ArrivedDatagram → TrafficSeen → TrafficSeen
counted_at None traffic = traffic
counted_at (Some datagram) traffic = after_datagram datagram traffic

abbrev pub arrived : ℕ → Node → List ℕ → Delivery → TrafficSeen → TrafficSeen
arrived ms peer bytes result traffic = counted_at (received_datagram ms peer bytes result) (record traffic { totals = totals_after traffic.totals result })

abbrev pub of_verdict : ℕ → Node → List ℕ → Verdict → TrafficSeen → TrafficSeen
of_verdict ms peer bytes (verdict.Delivered result) traffic = arrived ms peer bytes result traffic
of_verdict ms peer bytes other traffic = traffic

-- an event at this time with this verdict: a datagram is counted
abbrev pub after_event : ℕ → Event → Verdict → TrafficSeen → TrafficSeen
after_event ms (event.Datagram peer bytes) said traffic = of_verdict ms peer bytes said traffic
after_event ms other said traffic = traffic

-- DATAGRAMS THAT THE DEVICE PRODUCES

-- a node is among these
abbrev pub goes_to : List Node → Node → Bool
goes_to nodes to = list_any (is_node to) nodes

-- a datagram of this connection id, which these nodes consume, is one of a connection
abbrev pub is_sent_as : List Node → ℕ → Option SentAs → Bool
is_sent_as nodes id None = false
is_sent_as nodes id (Some sends) = (sends.id == id) && goes_to nodes sends.to

abbrev pub sent_one : List Node → ℕ → CountedConnection → CountedConnection
sent_one nodes id connection =
    if is_sent_as nodes id connection.sends then record connection { counts = sent_counts connection.counts } else connection

abbrev pub sent_with : List Node → Option ℕ → List CountedConnection → List CountedConnection
sent_with nodes None connections = connections
sent_with nodes (Some id) connections = map (sent_one nodes id) connections

-- a datagram is counted at each connection that it is for: its connection id is behind 6 bytes
abbrev pub sent_each : OutgoingDatagram → List CountedConnection → List CountedConnection
sent_each outgoing connections = sent_with outgoing.nodes (u32_behind outgoing.bytes 6) connections

abbrev pub sent_through : List OutgoingDatagram → List CountedConnection → List CountedConnection
sent_through [] connections = connections
sent_through (outgoing ∷ datagrams) connections = sent_through datagrams (sent_each outgoing connections)

-- THE CONNECTIONS OF AN ADAPTER

abbrev pub has_id : ℕ → CountedConnection → Bool
has_id id connection = is_id connection.id id

-- a connection that is opened at this time
abbrev pub opened_by : ℕ → ConnectionReport → CountedConnection
opened_by ms report = begun None (Some report.o_t_id.0) (Some (record { to = report.peer; id = report.t_o_id.0 })) (note_since ms)

-- nothing was counted of a connection of which there is no entry
abbrev pub entry_or : ℕ → ConnectionReport → Option CountedConnection → CountedConnection
entry_or ms report None = opened_by ms report
entry_or ms report (Some found) = found

-- the entry of a connection, by its O->T id
abbrev pub entry_of : ℕ → List CountedConnection → ConnectionReport → CountedConnection
entry_of ms connections report = entry_or ms report (find (has_id report.o_t_id.0) connections)

-- it times out once
abbrev pub marked : ℕ → Bool → CountedConnection → CountedConnection
marked ms true entry = entry
marked ms false entry = if entry.note.time_outs == 0 then record entry { note = timed_out_note ms entry.note } else entry

-- what was counted of a connection until this time
abbrev pub counted_of : ℕ → List CountedConnection → ConnectionReport → CountedConnection
counted_of ms connections report = marked ms report.established (entry_of ms connections report)

-- the entry of the connection at a place, if there is one
abbrev pub counted_at_place : ℕ → List CountedConnection → Option ConnectionReport → List CountedConnection
counted_at_place ms connections None = []
counted_at_place ms connections (Some report) = counted_of ms connections report ∷ []

-- the entries of the connections at the first places
abbrev pub counted_below : ℕ → DeviceTable → List CountedConnection → ℕ → List CountedConnection
counted_below ms table connections zero = []
counted_below ms table connections (suc place) =
    counted_below ms table connections place ++ counted_at_place ms connections (connection_in table place)

-- an entry for each connection of an adapter, of which there are at most 64
unfoldable pub counted_in : ℕ → DeviceTable → List CountedConnection → List CountedConnection
counted_in ms table connections = counted_below ms table connections 64

-- the entries after notices: those of the connections that there are, if one was opened or has ended
abbrev pub current : ℕ → DeviceTable → List Notice → List CountedConnection → List CountedConnection
current ms table notices connections = if list_any is_change notices then counted_in ms table connections else connections

-- THE SLOTS OF A SCANNER

abbrev pub id_of_slot : Option SlotReport → Option ℕ
id_of_slot (Some (slot.Established target)) = Some target.t_o_id.0
id_of_slot other = None

-- the connection id of the datagrams that a slot receives, if its connection is open
abbrev pub slot_id : DeviceTable → ℕ → Option ℕ
slot_id table number = id_of_slot (slot_in table number)

abbrev pub sends_of : ℕ → Option Node → Option SentAs
sends_of id None = None
sends_of id (Some to) = Some (record { to = to; id = id })

-- the datagrams that a slot in this state sends to its target
abbrev pub sends_of_slot : Option Node → Option SlotReport → Option SentAs
sends_of_slot target (Some (slot.Established reported)) = sends_of reported.o_t_id.0 target
sends_of_slot target other = None

-- the counts of a slot begin as its connection is established
abbrev pub opened_slot : ℕ → Option SlotReport → CountedConnection → CountedConnection
opened_slot ms report slot = begun slot.sender (id_of_slot report) (sends_of_slot slot.sender report) (opened_note ms slot.note)

-- the note of a slot that changes to the state of this number: a connection that was established may have timed out, with this id of
-- its datagrams; an opening that is not answered is no time-out of one
abbrev pub ended_note : (ms state : ℕ) → Option ℕ → StateNote → StateNote
ended_note ms state None note = record note { since_ms = ms }
ended_note ms state (Some id) note = changed_note ms state note

-- and they stay as it ends
abbrev pub slot_changed : (ms state : ℕ) → Option SlotReport → CountedConnection → CountedConnection
slot_changed ms state report slot =
    if state == phase_number phase.Established then opened_slot ms report slot
    else record slot { id = None; sends = None; note = ended_note ms state slot.id slot.note }

abbrev pub changed_at : (ms : ℕ) → List CountedConnection → (slot state : ℕ) → Option SlotReport → Option CountedConnection → List CountedConnection
changed_at ms connections slot state report None = connections
changed_at ms connections slot state report (Some found) = slice_set connections slot (slot_changed ms state report found)

-- a slot after it changed to the state of this number
abbrev pub with_slot : (ms slot state : ℕ) → Option SlotReport → List CountedConnection → List CountedConnection
with_slot ms slot state report connections = changed_at ms connections slot state report (slice_get connections slot)

abbrev pub refused_slot : Reason → CountedConnection → CountedConnection
refused_slot reason slot = record slot { note = refused_note reason slot.note }

abbrev pub refused_at : List CountedConnection → ℕ → Reason → Option CountedConnection → List CountedConnection
refused_at connections slot reason None = connections
refused_at connections slot reason (Some found) = slice_set connections slot (refused_slot reason found)

-- a slot was not opened, for this reason
abbrev pub with_refusal : ℕ → Reason → List CountedConnection → List CountedConnection
with_refusal slot reason connections = refused_at connections slot reason (slice_get connections slot)

-- after a notice of a slot
abbrev pub after_notice : ℕ → DeviceTable → Notice → List CountedConnection → List CountedConnection
after_notice ms table (notice.Slot slot state) connections = with_slot ms slot state (slot_in table slot) connections
after_notice ms table (notice.Refused slot reason) connections = with_refusal slot reason connections
after_notice ms table other connections = connections

-- after all notices of an answer
abbrev pub after_notices : ℕ → DeviceTable → List Notice → List CountedConnection → List CountedConnection
after_notices ms table [] connections = connections
after_notices ms table (first ∷ notices) connections = after_notices ms table notices (after_notice ms table first connections)

-- a slot after a port's report of a stream
abbrev pub reported : ℕ → PortReport → CountedConnection → CountedConnection
reported ms said slot = record slot { note = record slot.note { stream = stream_after slot.note.stream slot.sender ms said } }

-- ONE STEP

-- the totals after so many datagrams were produced
abbrev pub sent_totals : TrafficTotals → ℕ → TrafficTotals
sent_totals totals sent = record totals { sent = with_more totals.sent sent }

-- the entries after notices, then with the datagrams that were produced
abbrev pub with_answer : ℕ → DeviceTable → Answer → TrafficSeen → TrafficSeen
with_answer ms table answer traffic = record traffic {
  connections = sent_through answer.datagrams (after_notices ms table answer.notices (current ms table answer.notices traffic.connections));
}

-- what is counted after an event at this time and its answer, at a device with this table then
abbrev pub noted : ℕ → DeviceTable → Event → Answer → TrafficSeen → TrafficSeen
noted ms table given answer traffic =
    with_answer ms table answer
    (after_event ms given answer.verdict (record traffic { totals = sent_totals traffic.totals (length answer.datagrams) }))
