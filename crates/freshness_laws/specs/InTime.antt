-- How long an established connection of an adapter has accepted no datagram: at most its time-out, or, if it has accepted none
-- yet, the longer time that it has from its opening on (Volume 1, chapter 3, inactivity watchdog). A connection is named by its
-- opening number.
use Rattle.std.specs.Prelude.{ℕ, ◌≡◌, ◌⊎◌, ◌≤◌, max, Bool, true, false, List, [], ◌∷◌, ◌++◌, None}
use Rattle.std.specs.List.{list_any}
use Rattle.cip_events.specs.declared.event.Event.{Event}
use Rattle.cip_events.specs.Outcomes.{Outcome}
use Rattle.adapter_table.specs.declared.table.AdapterTable.{AdapterTable}
use Rattle.adapter_table.specs.Connections.{Row}
use Rattle.adapter_table.specs.Newest.{Acceptance, was_opened_as}
use Rattle.adapter_table.specs.Rows.{is_established, Each}
use Rattle.cip_tables.specs.declared.table.Config.{Config}
use Rattle.cip_tables.specs.declared.table.DeviceTable.{DeviceTable}
use Rattle.cip_tables.specs.declared.table.DeviceTable.TheVariants.{Adapter, Scanner}
use Rattle.cip_tables.specs.Newest.{accepted_in, acceptances}
use Rattle.cip_tables.specs.Run.{Runs, table_after, performed}
use Rattle.cip_tables.specs.Step.{opening_table, config_fault}
use Rattle.freshness_laws.specs.Passing.{passed}

-- ONE CONNECTION

-- One of the events is the newest datagram that the connection accepted, and at most so much time has passed behind it.
pub record AcceptedWithin (opening limit : ℕ) (old : DeviceTable) (events : List Event) : Type 0 where
  pub before : List Event
  pub event : Event
  pub after : List Event
  pub accepted : Acceptance
  pub split : events ≡ before ++ event ∷ after
  pub accepts : accepted_in opening (table_after old before) event ≡ accepted ∷ []
  pub silent : acceptances opening (table_after old (before ++ event ∷ [])) after ≡ []
  pub in_time : passed (table_after old (before ++ event ∷ [])) after ≤ limit

-- the adapter has a connection of this opening number
abbrev pub has_opened : ℕ → DeviceTable → Bool
has_opened opening (Adapter t) = list_any (was_opened_as opening) t.rows
has_opened opening (Scanner t) = false

-- One of the events opened the connection, it accepted no datagram, and at most so much time has passed behind its opening.
pub record OpenedWithin (opening limit : ℕ) (old : DeviceTable) (events : List Event) : Type 0 where
  pub before : List Event
  pub event : Event
  pub after : List Event
  pub split : events ≡ before ++ event ∷ after
  pub closed_before : has_opened opening (table_after old before) ≡ false
  pub opened : has_opened opening (table_after old (before ++ event ∷ [])) ≡ true
  pub silent : acceptances opening old events ≡ []
  pub in_time : passed (table_after old (before ++ event ∷ [])) after ≤ limit

-- the milliseconds from its opening on for which a connection of this time-out may accept nothing: 10,000, or the time-out if it
-- is longer
abbrev pub first_timeout : ℕ → ℕ
first_timeout timeout = max 10000 timeout

-- an established connection accepted its newest datagram within its time-out, or was opened within the first one
abbrev pub AcceptsInTime : DeviceTable → List Event → Row → Type 0
AcceptsInTime old events row =
    is_established row ≡ true →
    AcceptedWithin row.opening row.watchdog.0 old events ⊎ OpenedWithin row.opening (first_timeout row.watchdog.0) old events

-- THE LAW

-- so does each established connection, after each run from a fresh adapter without a fault
abbrev pub ConnectionsAcceptInTime : Type 0
ConnectionsAcceptInTime =
    (made : Config) (events : List Event) (outcomes : List Outcome) (t : AdapterTable) →
    config_fault made ≡ None → Runs (opening_table made) events outcomes (Adapter t) →
    Each (AcceptsInTime (opening_table made) (performed events outcomes)) t.rows
