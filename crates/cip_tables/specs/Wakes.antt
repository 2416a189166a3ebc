-- When something is due at a device, and for how long it needs no tick (Volume 1, chapter 3, connection timeouts,
-- inactivity watchdog, production triggers).
use Rattle.std.specs.Prelude.{ℕ, ◌≡◌, ◌<◌, ◌≤◌, ◌+◌, ◌-◌, ◌^◌, ◌&&◌, min, Bool, if◌then◌else◌, List, [], ◌∷◌, find, option_and_then, Ok}
use Rattle.std.specs.Option.{is_some}
use Rattle.cip_types.specs.declared.names.Node.{Node}
use Rattle.cip_events.specs.declared.event.Event.TheVariants.{Tick}
use Rattle.cip_events.specs.declared.event.Verdict.TheVariants.{Done}
use Rattle.cip_events.specs.Answers.{plain_answer}
use Rattle.cip_events.specs.Clock.{longest_tick, clock_end}
use Rattle.messaging.specs.Times.{first_moment}
use Rattle.adapter_table.specs.Connections.{Row}
use Rattle.adapter_table.specs.declared.row.State.{State}
use Rattle.adapter_table.specs.declared.row.State.TheVariants as row_state
use Rattle.adapter_table.specs.Ticks.{clocked_table}
use Rattle.scanner_table.specs.declared.explicit.PendingExplicit.{PendingExplicit}
use Rattle.scanner_table.specs.declared.slot.SlotState.{SlotState}
use Rattle.scanner_table.specs.declared.slot.SlotState.TheVariants as slot_state
use Rattle.scanner_table.specs.declared.table.ScannerTable.{ScannerTable}
use Rattle.scanner_table.specs.declared.table.TargetStream.{TargetStream}
use Rattle.scanner_table.specs.Sessions.{is_to, session_on}
use Rattle.scanner_table.specs.Slots.{IndexedSlot, indexed_slots, needs_request}
use Rattle.scanner_table.specs.Opening.{asking_session}
use Rattle.scanner_table.specs.Ticks.{clocked_table as scanner_clocked_table}
use Rattle.cip_tables.specs.declared.table.DeviceTable.{DeviceTable}
use Rattle.cip_tables.specs.declared.table.DeviceTable.TheVariants.{Adapter, Scanner}
use Rattle.cip_tables.specs.Step.{step}

-- THE CLOCK

-- the time of a device, in milliseconds
abbrev pub clock_of : DeviceTable → ℕ
clock_of (Adapter t) = t.clock.0
clock_of (Scanner t) = t.clock.0

-- the table when some milliseconds have passed, and nothing else has happened
abbrev pub clocked : DeviceTable → ℕ → DeviceTable
clocked (Adapter t) ms = Adapter (clocked_table t ms)
clocked (Scanner t) ms = Scanner (scanner_clocked_table t ms)

-- WHEN SOMETHING IS DUE

-- the end of time, which no clock reaches
abbrev pub never : ℕ
never = 2 ^ 64 - 1

-- when an adapter's connection is due: its deadline is reached, or its producer is due; a timed-out one never is
abbrev pub connection_due : ℕ → State → ℕ
connection_due deadline (row_state.Established production) = min deadline production.due.0
connection_due deadline row_state.TimedOut = never

-- when the first of an adapter's connections is
abbrev pub connections_due : List Row → ℕ
connections_due [] = never
connections_due (row ∷ rows) = min (connection_due row.deadline.0 row.state) (connections_due rows)

-- a session with the target is registered on one of the streams
abbrev pub has_session : List TargetStream → Node → Bool
has_session streams target = is_some (option_and_then session_on (find (is_to target) streams))

-- a slot can open, or close a connection that timed out: a session with its target is registered, and if it opens it is its turn
abbrev pub can_ask : ScannerTable → IndexedSlot → Bool
can_ask t indexed = is_some (asking_session t indexed)

-- when a slot without an open connection opens, or closes one that timed out: at its retry time, if it can ask its target
abbrev pub retry_due : (IndexedSlot → Bool) → IndexedSlot → ℕ
retry_due asks indexed = if needs_request indexed.slot && asks indexed then indexed.slot.retry_at.0 else never

-- when a slot in a state is due, if it opens at this time: its request is given up, its connection times out or
-- produces, or it opens
abbrev pub state_due : ℕ → SlotState → ℕ
state_due retry slot_state.Idle = retry
state_due retry (slot_state.Opening o) = o.deadline.0
state_due retry (slot_state.Established c) = min c.deadline.0 c.production.due.0
state_due retry (slot_state.TimedOut link) = retry
state_due retry (slot_state.Closing c) = c.deadline.0

abbrev pub slot_due : (IndexedSlot → Bool) → IndexedSlot → ℕ
slot_due asks indexed = state_due (retry_due asks indexed) indexed.slot.state

-- when the first of a scanner's slots is due
abbrev pub slots_due : (IndexedSlot → Bool) → List IndexedSlot → ℕ
slots_due asks [] = never
slots_due asks (indexed ∷ rest) = min (slot_due asks indexed) (slots_due asks rest)

-- when the first of a scanner's explicit requests is given up
abbrev pub explicit_due : List PendingExplicit → ℕ
explicit_due [] = never
explicit_due (pending ∷ rest) = min pending.deadline.0 (explicit_due rest)

-- the time at which something is due at a device, if only time passes
abbrev pub due_at : DeviceTable → ℕ
due_at (Adapter t) = min (connections_due t.rows) (first_moment t.messaging)
due_at (Scanner t) = min (slots_due (can_ask t) (indexed_slots t)) (explicit_due t.explicit)

-- in how many milliseconds something is due at a device, at most the longest tick; 0 if it is due now
abbrev pub due_in : DeviceTable → ℕ
due_in t = min (due_at t - clock_of t) longest_tick

-- each tick of fewer milliseconds answers nothing, and moves the clock alone
abbrev pub IsQuietFor : DeviceTable → ℕ → Type 0
IsQuietFor t wait = (ms : ℕ) → ms < wait → ms ≤ longest_tick → clock_of t + ms ≤ clock_end → step t (Tick ms) ≡ Ok (plain_answer Done, clocked t ms)
