-- The datagrams that a connection of an adapter accepts over a run, in order. A connection is named by its opening number.
use Rattle.std.specs.Prelude.{ℕ, List, [], ◌∷◌, ◌++◌, find, Option, Some, None}
use Rattle.cip_events.specs.declared.event.Event.{Event}
use Rattle.cip_events.specs.Outcomes.{Outcome}
use Rattle.cip_productions.specs.declared.acceptance.Accepted.{Accepted}
use Rattle.adapter_table.specs.Connections.{Row}
use Rattle.adapter_table.specs.Newest.{Acceptance, EachAfter, accepted_at, was_opened_as}
use Rattle.cip_tables.specs.declared.table.DeviceTable.{DeviceTable}
use Rattle.cip_tables.specs.declared.table.DeviceTable.TheVariants.{Adapter, Scanner}
use Rattle.cip_tables.specs.Step.{step}
use Rattle.cip_tables.specs.Run.{Runs, table_of, performed}
use Rattle.cip_tables.specs.Whole.{IsWholeDevice}

-- the datagrams that the connection of this opening number accepts at an event
abbrev pub accepted_in : ℕ → DeviceTable → Event → List Acceptance
accepted_in opening (Adapter t) event = accepted_at opening t event
accepted_in opening (Scanner t) event = []

-- the datagrams that it accepts over the events, in order
abbrev pub acceptances : ℕ → DeviceTable → List Event → List Acceptance
acceptances opening t [] = []
acceptances opening t (event ∷ events) = accepted_in opening t event ++ acceptances opening (table_of t (step t event)) events

abbrev pub last_of : Option Row → Option Accepted
last_of None = None
last_of (Some row) = row.last

-- the datagram that it accepted last, as the table remembers
abbrev pub last_in : ℕ → DeviceTable → Option Accepted
last_in opening (Adapter t) = last_of (find (was_opened_as opening) t.rows)
last_in opening (Scanner t) = None

-- each two datagrams that a connection accepts one after the other are so related, in every run from a whole table
abbrev pub OverEveryConnection : (Option Accepted → Acceptance → Type 0) → Type 0
OverEveryConnection R =
    (opening : ℕ) (old new : DeviceTable) (events : List Event) (outcomes : List Outcome) →
    IsWholeDevice old → Runs old events outcomes new →
    EachAfter R (last_in opening old) (acceptances opening old (performed events outcomes))
