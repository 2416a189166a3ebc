-- Connections that receive a datagram.
use Rattle.std.specs.Prelude.{◌≡◌, if◌then◌else◌, List, map, Option, None, Some}
use Rattle.cip_types.specs.declared.names.Ms.{Ms}
use Rattle.cip_types.specs.declared.names.Node.{Node}
use Rattle.cip_datagram.specs.Datagram.{DatagramFields}
use Rattle.cip_datagram.specs.Header.{header_at}
use Rattle.cip_events.specs.Answers.{is_accepted}
use Rattle.adapter_table.specs.declared.profile.Profile.{Profile}
use Rattle.adapter_table.specs.declared.row.Connection.{Connection}
use Rattle.adapter_table.specs.Connections.{Row}
use Rattle.adapter_table.specs.Datagrams.{row_delivery, run_data, later_deadline, accepted_row, accepted_if_for}
use Rattle.adapter_table.specs.Judging.{IsJudged}
use Rattle.conn_slab.specs.declared.reception.Received.{Received}

-- a connection that has received a datagram, which it accepts if its delivery is an accepted one
abbrev pub received_row : {P : Type 0} → Profile → Ms → DatagramFields → Connection P → Connection P
received_row profile clock d row = if is_accepted (row_delivery profile clock row d) then accepted_row clock d row else row

-- when its watchdog runs out then
abbrev pub received_deadline : {P : Type 0} → Profile → Ms → DatagramFields → Connection P → Ms
received_deadline profile clock d row = if is_accepted (row_delivery profile clock row d) then later_deadline clock row else row.deadline

-- what the datagram brings it
pub record IsReceivedBy {P : Type 0} (profile : Profile) (clock : Ms) (d : DatagramFields) (row : Connection P) (received : Received) : Type 0 where
  pub judgement : IsJudged (row_delivery profile clock row d) (run_data (header_at d.payload)) received.judgement
  pub consumed : received.consumed ≡ row.consumed
  pub deadline : received.deadline ≡ received_deadline profile clock d row

-- what the datagram brings the connection that is found, if one is
abbrev pub IsReceived : Profile → Ms → DatagramFields → Option Row → Option Received → Type 0
IsReceived profile clock d None None = Unit {0}
IsReceived profile clock d None (Some received) = ⊥
IsReceived profile clock d (Some row) None = ⊥
IsReceived profile clock d (Some row) (Some received) = IsReceivedBy profile clock d row received

-- the connections after a datagram that is for the found one of them
abbrev pub reception : Profile → Ms → Node → DatagramFields → Option Row → List Row → List Row
reception profile clock peer d None rows = rows
reception profile clock peer d (Some row) rows =
    if is_accepted (row_delivery profile clock row d) then map (accepted_if_for clock peer d) rows else rows
