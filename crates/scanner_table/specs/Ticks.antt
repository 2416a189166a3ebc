-- Time at a scanner. A tick moves the clock; then connections whose deadline has come time out; then slots give up late
-- replies; then ready slots open; then late explicit requests end; then due slots produce (Volume 1, chapter 3, connection
-- timeouts, inactivity watchdog).
use Rattle.std.specs.Prelude.{ℕ, ◌+◌, ◌==◌, ◌&&◌, ◌||◌, nat_lt, nat_le, Bool, false, List, [], ◌∷◌, map, filter, Result, Ok, Err}
use Rattle.cip_types.specs.Cases.{first_case_or}
use Rattle.cip_types.specs.declared.names.Ms.{Ms}
use Rattle.cip_types.specs.Order.{in_order}
use Rattle.cip_events.specs.declared.event.StepFault.{StepFault}
use Rattle.cip_events.specs.declared.event.StepFault.TheVariants as fault
use Rattle.cip_events.specs.Clock.{longest_tick, clock_end}
use Rattle.cip_productions.specs.Productions.{sent}
use Rattle.scanner_table.specs.declared.slot.SlotState.{SlotState}
use Rattle.scanner_table.specs.declared.slot.SlotState.TheVariants.{Idle, Opening, Established, TimedOut, Closing}
use Rattle.scanner_table.specs.declared.table.ScannerTable.{ScannerTable}
use Rattle.scanner_table.specs.Slots.{IndexedSlot, indexed_slots}
use Rattle.scanner_table.specs.Effects.{Next, Effect, nothing, and_then, on_each, changed, sent_answer}
use Rattle.scanner_table.specs.Opening.{ready_opened}
use Rattle.scanner_table.specs.Replies.{failed_slot}
use Rattle.scanner_table.specs.Closing.{given_up}
use Rattle.scanner_table.specs.Explicit.{explicit_timed_out}
use Rattle.scanner_table.specs.Productions.{due_productions, produced_table}

-- CONNECTIONS THAT TIME OUT

abbrev pub state_has_expired : Ms → SlotState → Bool
state_has_expired clock Idle = false
state_has_expired clock (Opening o) = false
state_has_expired clock (Established c) = nat_le c.deadline.0 clock.0
state_has_expired clock (TimedOut link) = false
state_has_expired clock (Closing c) = false

-- the slot's connection is established, and its deadline has come
abbrev pub has_expired : Ms → IndexedSlot → Bool
has_expired clock indexed = state_has_expired clock indexed.slot.state

abbrev pub deadline_of : SlotState → ℕ
deadline_of Idle = 0
deadline_of (Opening o) = o.deadline.0
deadline_of (Established c) = c.deadline.0
deadline_of (TimedOut link) = 0
deadline_of (Closing c) = c.deadline.0

-- by their deadlines, and then by their numbers
abbrev pub by_deadline : IndexedSlot → IndexedSlot → Bool
by_deadline indexed other =
    nat_lt (deadline_of indexed.slot.state) (deadline_of other.slot.state) || (deadline_of indexed.slot.state == deadline_of other.slot.state && nat_lt indexed.number other.number)

abbrev pub expired_slots : ScannerTable → List IndexedSlot
expired_slots t = in_order by_deadline (filter (has_expired t.clock) (indexed_slots t))

-- the connection times out: the image stays, and the slot opens again after the retry time
abbrev pub expired_state : ScannerTable → IndexedSlot → SlotState → Effect
expired_state t indexed Idle = nothing t
expired_state t indexed (Opening o) = nothing t
expired_state t indexed (Established c) = changed t indexed (failed_slot t (TimedOut c.link) indexed.slot) []
expired_state t indexed (TimedOut link) = nothing t
expired_state t indexed (Closing c) = nothing t

abbrev pub expired : ScannerTable → IndexedSlot → Effect
expired t indexed = expired_state t indexed indexed.slot.state

unfoldable pub all_expired : ScannerTable → Effect
all_expired t = on_each expired (expired_slots t) t

-- LATE REPLIES

abbrev pub state_is_overdue : Ms → SlotState → Bool
state_is_overdue clock Idle = false
state_is_overdue clock (Opening o) = nat_le o.deadline.0 clock.0
state_is_overdue clock (Established c) = false
state_is_overdue clock (TimedOut link) = false
state_is_overdue clock (Closing c) = nat_le c.deadline.0 clock.0

-- the deadline of the slot's request has come
abbrev pub is_overdue : Ms → IndexedSlot → Bool
is_overdue clock indexed = state_is_overdue clock indexed.slot.state

unfoldable pub all_given_up : ScannerTable → Effect
all_given_up t = on_each given_up (filter (is_overdue t.clock) (indexed_slots t)) t

-- A TICK

abbrev pub clocked_table : ScannerTable → ℕ → ScannerTable
clocked_table t ms = record t { clock = record { 0 = t.clock.0 + ms } }

-- the connections after the clock has moved
abbrev pub advanced : ScannerTable → Effect
advanced t = and_then (and_then (all_expired t) all_given_up) ready_opened

-- the connections and the explicit requests after the clock has moved, before productions
abbrev pub moved_on : ScannerTable → Effect
moved_on t = and_then (advanced t) explicit_timed_out

-- the answer with the requests, the notices and the due datagrams, and the table after the productions
abbrev pub ticked : Effect → Next
ticked effect = (sent_answer effect (map sent (due_productions effect.table)), produced_table effect.table)

-- a number of milliseconds passes: at most the longest tick, and not beyond the end of the clock
unfoldable pub tick : ScannerTable → ℕ → Result Next StepFault
tick t ms = first_case_or (Ok (ticked (moved_on (clocked_table t ms)))) (
    (nat_lt longest_tick ms, Err fault.TickTooLong)
    ∷ (nat_lt clock_end (t.clock.0 + ms), Err fault.ClockEnd)
    ∷ []
    )
