-- The owners of an output, one after another: data of a second connection are applied only after the first was closed or
-- has timed out (Volume 1, chapter 3, application connection types, Forward_Close and connection timeouts). A connection is
-- named by its opening number, which an adapter gives once.
use Rattle.std.specs.Prelude.{ℕ, ◌≡◌, ◌≢◌, ◌==◌, ◌&&◌, Bool, false, if◌then◌else◌, List, [], ◌∷◌, ◌++◌, map, filter, find, Option, Some, None, Result, Ok, Err}
use Rattle.std.specs.List.{Contains, list_any}
use Rattle.std.specs.Option.{option_map}
use Rattle.cip_types.specs.declared.names.Node.{Node}
use Rattle.cip_types.specs.declared.names.Ms.{Ms}
use Rattle.cip_types.specs.declared.names.Triad.{Triad}
use Rattle.cip_datagram.specs.declared.datagram.DatagramFault.{DatagramFault}
use Rattle.cip_datagram.specs.Datagram.{DatagramFields}
use Rattle.cip_datagram.specs.Reading.{datagram_reading}
use Rattle.cip_events.specs.declared.event.Event.{Event}
use Rattle.cip_events.specs.declared.event.Event.TheVariants.{Datagram}
use Rattle.cip_events.specs.declared.event.Notice.{Notice}
use Rattle.cip_events.specs.declared.event.Notice.TheVariants as notice
use Rattle.cip_events.specs.declared.event.StepFault.{StepFault}
use Rattle.cip_events.specs.Outcomes.{Outcome}
use Rattle.adapter_table.specs.declared.profile.Profile.{Profile}
use Rattle.adapter_table.specs.Connections.{Row}
use Rattle.adapter_table.specs.declared.table.AdapterTable.{AdapterTable}
use Rattle.adapter_table.specs.Rows.{same_triad, drives, drivers}
use Rattle.adapter_table.specs.Datagrams.{is_for, row_delivery}
use Rattle.adapter_table.specs.Newest.{is_applied}
use Rattle.adapter_table.specs.Requests.{Next}
use Rattle.adapter_table.specs.Step.{adapter_step}
use Rattle.cip_tables.specs.declared.table.DeviceTable.{DeviceTable}
use Rattle.cip_tables.specs.declared.table.DeviceTable.TheVariants.{Adapter, Scanner}
use Rattle.cip_tables.specs.Step.{step}
use Rattle.cip_tables.specs.Run.{Runs, table_of, performed}
use Rattle.cip_tables.specs.Whole.{IsWholeDevice}

-- a turn of an output: data of this connection were applied to it, or this connection, its established exclusive owner, has
-- ended
pub data Turn : Type 0 where
  brought : ℕ → Turn
  ended : ℕ → Turn

-- ---- data

-- the turn of a datagram for this connection at a time, if its data are applied to the output
abbrev pub brought_by : ℕ → Profile → Ms → DatagramFields → Row → List Turn
brought_by point profile clock d row =
    if row.consumed == point && is_applied (row_delivery profile clock row d) then brought row.opening ∷ [] else []

-- the turn of a datagram for the connection that the lookup found, if any
abbrev pub brought_found : ℕ → Profile → Ms → DatagramFields → Option Row → List Turn
brought_found point profile clock d None = []
brought_found point profile clock d (Some row) = brought_by point profile clock d row

abbrev pub brought_read : ℕ → AdapterTable → Node → Result DatagramFields DatagramFault → List Turn
brought_read point t peer (Err fault) = []
brought_read point t peer (Ok d) = brought_found point t.profile t.clock d (find (is_for peer d.connection) t.rows)

-- the turn of an event that applies data to the output; only a datagram applies data
abbrev pub brought_at : ℕ → AdapterTable → Event → List Turn
brought_at point t (Datagram peer bytes) = brought_read point t peer (datagram_reading bytes)
brought_at point t event = []

-- ---- ends

-- the notice reports that the connection of the triad was closed, or that it timed out
abbrev pub reports_end : Triad → Notice → Bool
reports_end triad (notice.Closed other) = same_triad triad other
reports_end triad (notice.Expired other) = same_triad triad other
reports_end triad other = false

-- one of the notices reports the end of the connection
abbrev pub has_ended : List Notice → Row → Bool
has_ended notices row = list_any (reports_end row.triad) notices

abbrev pub ended_turn : Row → Turn
ended_turn row = ended row.opening

-- the turn of the established exclusive owner of the output, if the notices report its end
abbrev pub ended_at : ℕ → List Row → List Notice → List Turn
ended_at point rows notices = map ended_turn (filter (has_ended notices) (drivers point rows))

-- ---- events

-- the turns of an event with this answer; an event that is refused has none
abbrev pub reported : ℕ → AdapterTable → Event → Result Next StepFault → List Turn
reported point t event (Ok next) = brought_at point t event ++ ended_at point t.rows next.0.notices
reported point t event (Err fault) = []

-- the turns of an event at a device; a scanner has no output
abbrev pub turns_at : ℕ → DeviceTable → Event → List Turn
turns_at point (Adapter t) event = reported point t event (adapter_step t event)
turns_at point (Scanner t) event = []

-- the turns of the events, in order
abbrev pub turns : ℕ → DeviceTable → List Event → List Turn
turns point t [] = []
turns point t (event ∷ events) = turns_at point t event ++ turns point (table_of t (step t event)) events

-- ---- one after another

-- the owner that is left after a connection has ended: none if that connection was the owner
abbrev pub left_after : ℕ → Option ℕ → Option ℕ
left_after opening None = None
left_after opening (Some owner) = if opening == owner then None else Some owner

-- the owner after a turn: the connection that brought data last, if it has not ended
abbrev pub owner_after : Turn → Option ℕ → Option ℕ
owner_after (brought opening) owner = Some opening
owner_after (ended opening) owner = left_after opening owner

-- the connection is the owner, if there is one
abbrev pub IsOwner : ℕ → Option ℕ → Type 0
IsOwner opening None = Unit {0}
IsOwner opening (Some owner) = opening ≡ owner

-- if there is an owner, only it brings data
abbrev pub IsInTurn : Turn → Option ℕ → Type 0
IsInTurn (brought opening) owner = IsOwner opening owner
IsInTurn (ended opening) owner = Unit {0}

-- data come from one connection until it has ended, and at first from the owner, if there is one
abbrev pub Follow : Option ℕ → List Turn → Type 0
Follow owner [] = Unit {0}
Follow owner (turn ∷ rest) = IsInTurn turn owner × Follow (owner_after turn owner) rest

abbrev pub opening_of : Row → ℕ
opening_of row = row.opening

-- the established exclusive owner of an output of a device
abbrev pub driver_in : ℕ → DeviceTable → Option ℕ
driver_in point (Adapter t) = option_map opening_of (find (drives point) t.rows)
driver_in point (Scanner t) = None

-- data follow so over every run from a whole table
abbrev pub OwnersFollow : Type 0
OwnersFollow =
    (point : ℕ) (old new : DeviceTable) (events : List Event) (outcomes : List Outcome) →
    IsWholeDevice old → Runs old events outcomes new → Follow None (turns point old (performed events outcomes))

-- if the opening table has an owner of the output, data come at first from that owner
abbrev pub DriversGoOn : Type 0
DriversGoOn =
    (point : ℕ) (old new : DeviceTable) (events : List Event) (outcomes : List Outcome) →
    IsWholeDevice old → Runs old events outcomes new → Follow (driver_in point old) (turns point old (performed events outcomes))

-- between data of two connections the first connection ends
abbrev pub EndsStandBetween : Type 0
EndsStandBetween =
    (point : ℕ) (old new : DeviceTable) (events : List Event) (outcomes : List Outcome) (first middle last : List Turn) (a b : ℕ) →
    IsWholeDevice old → Runs old events outcomes new →
    turns point old (performed events outcomes) ≡ first ++ brought a ∷ (middle ++ brought b ∷ last) → a ≢ b →
    Contains middle (ended a)
