-- Connections that receive a datagram.
use Rattle.std.specs.Prelude.{◌≡◌, if◌then◌else◌, List, map, Option, None, Some}
use Rattle.cip_types.specs.declared.names.Ms.{Ms}
use Rattle.cip_types.specs.declared.names.Node.{Node}
use Rattle.cip_datagram.specs.Datagram.{DatagramFields}
use Rattle.cip_datagram.specs.Header.{header_at}
use Rattle.cip_events.specs.Answers.{is_accepted}
use Rattle.adapter_table.specs.declared.profile.Profile.{Profile}
use Rattle.adapter_table.specs.Connections.{Row}
use Rattle.adapter_table.specs.Datagrams.{row_delivery, accepted_if_for, run_data}
use Rattle.adapter_table.specs.Judging.{IsJudged}
use Rattle.indexed_connections.specs.declared.list.table.ReceivedDatagram.{ReceivedDatagram}

-- what a datagram brings the connection that is found, if one is
abbrev pub IsReceived : Profile → Ms → DatagramFields → Option Row → Option ReceivedDatagram → Type 0
IsReceived profile clock d None None = Unit {0}
IsReceived profile clock d None (Some received) = ⊥
IsReceived profile clock d (Some row) None = ⊥
IsReceived profile clock d (Some row) (Some received) =
    IsJudged (row_delivery profile clock row d) (run_data (header_at d.payload)) received.judgement × (received.consumed ≡ row.consumed)

-- the connections after a datagram that is for the found one: it has accepted it, if its delivery is an accepted one
abbrev pub receiving : Profile → Ms → Node → DatagramFields → Option Row → List Row → List Row
receiving profile clock peer d None rows = rows
receiving profile clock peer d (Some row) rows =
    if is_accepted (row_delivery profile clock row d) then map (accepted_if_for clock peer d) rows else rows
