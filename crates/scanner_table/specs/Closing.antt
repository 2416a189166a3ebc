-- How the connection of a slot ends: the application stops the slot, the stream is cut, or a reply does not come
-- (Volume 1, chapter 3, Forward_Close service and connection timeouts).
use Rattle.std.specs.Prelude.{nat_lt, ◌&&◌, Bool, false, if◌then◌else◌, [], filter, Option, Some, None, Result, Ok, Err}
use Rattle.cip_types.specs.declared.names.Node.{Node}
use Rattle.cip_events.specs.declared.event.StepFault.{StepFault}
use Rattle.cip_events.specs.declared.event.StepFault.TheVariants as fault
use Rattle.conn_state.specs.declared.names.Link.{Link}
use Rattle.conn_state.specs.declared.names.Requested.{Requested}
use Rattle.scanner_table.specs.declared.slot.PendingClose.{PendingClose}
use Rattle.scanner_table.specs.declared.slot.Slot.{Slot}
use Rattle.scanner_table.specs.declared.slot.SlotState.{SlotState}
use Rattle.scanner_table.specs.declared.slot.SlotState.TheVariants.{Idle, Opening, Established, TimedOut, Closing}
use Rattle.scanner_table.specs.declared.table.ScannerTable.{ScannerTable}
use Rattle.scanner_table.specs.Slots.{IndexedSlot, indexed_slots, is_with}
use Rattle.scanner_table.specs.declared.table.Session.{Session}
use Rattle.scanner_table.specs.Sessions.{session_with}
use Rattle.scanner_table.specs.Requests.{id_or_zero}
use Rattle.scanner_table.specs.Effects.{Effect, nothing, and_then, on_each, changed}
use Rattle.scanner_table.specs.Opening.{has_request, resigned, exhausted, close_requested, opened}
use Rattle.scanner_table.specs.Replies.{failed_slot}

-- GIVING UP

-- the slot without a connection
abbrev pub idle_slot : Slot → Slot
idle_slot slot = record slot { state = Idle }

-- a requested connection, whose O->T id is not known
abbrev pub requested_link : Requested → Link
requested_link requested = record { triad = requested.triad; o_t_id = record { 0 = 0 }; t_o_id = id_or_zero requested.t_o_id }

-- the state of a slot that ends a connection which its target may still have: with `tidy` it is timed out until it is closed
abbrev pub left_state : ScannerTable → Link → SlotState
left_state t link = if t.profile.tidy then TimedOut link else Idle

-- the time for the reply to the Forward_Close is not over
abbrev pub is_close_in_time : ScannerTable → PendingClose → Bool
is_close_in_time t c = nat_lt t.clock.0 c.deadline.0

-- The slot gives up the reply to its Forward_Close: it has no connection. With `tidy` a slot that gives up before the time is over, as
-- its session ends, is timed out and closes the connection again after the retry time.
abbrev pub unclosed_slot : ScannerTable → PendingClose → Slot → Slot
unclosed_slot t c slot = if t.profile.tidy && is_close_in_time t c then failed_slot t (TimedOut c.link) slot else idle_slot slot

-- The slot gives up the reply that it waits for. A slot that opens tries again after the retry time.
abbrev pub given_up_state : ScannerTable → IndexedSlot → SlotState → Effect
given_up_state t indexed Idle = nothing t
given_up_state t indexed (Opening o) = changed t indexed (failed_slot t (left_state t (requested_link o.requested)) indexed.slot) []
given_up_state t indexed (Established c) = nothing t
given_up_state t indexed (TimedOut link) = nothing t
given_up_state t indexed (Closing c) = changed t indexed (unclosed_slot t c indexed.slot) []

abbrev pub given_up : ScannerTable → IndexedSlot → Effect
given_up t indexed = given_up_state t indexed indexed.slot.state

-- The stream to a target is closed: the target's slots give up the replies that they wait for. Open connections stay open.
unfoldable pub target_lost : Node → ScannerTable → Effect
target_lost target t = on_each given_up (filter (is_with target) (indexed_slots t)) t

-- THE REPLY TO A FORWARD_CLOSE

-- the slot opens, if its connection is desired
abbrev pub reopened : IndexedSlot → ScannerTable → Effect
reopened indexed t = if indexed.slot.desired_up then opened t indexed else nothing t

-- any reply ends the connection, whatever it says, and the slot opens if its connection is desired
abbrev pub closed : ScannerTable → IndexedSlot → Effect
closed t indexed = and_then (changed t indexed (idle_slot indexed.slot) []) (reopened (record indexed { slot = idle_slot indexed.slot }))

-- STOPPING

abbrev pub slot_resigned : ScannerTable → IndexedSlot → Effect
slot_resigned t indexed = changed t indexed (resigned indexed.slot) []

-- the slot ends a connection which its target may still have, and does not open again
abbrev pub left_slot : ScannerTable → Link → Slot → Slot
left_slot t link slot = record slot { state = left_state t link; desired_up = false }

-- With a session the slot closes its connection by a Forward_Close. Without a session it drops the connection, and the
-- target's watchdog ends it there; with `tidy` it is closed when a session is registered.
abbrev pub closed_within : ScannerTable → IndexedSlot → Link → Option Session → Effect
closed_within t indexed link None = changed t indexed (left_slot t link indexed.slot) []
closed_within t indexed link (Some session) = if has_request t then close_requested t indexed link false session else exhausted t indexed

-- the slot gives up a connection that its target may have; with `tidy` it closes it
abbrev pub dropped : ScannerTable → IndexedSlot → Link → Effect
dropped t indexed link = if t.profile.tidy then closed_within t indexed link (session_with t indexed.config.target) else slot_resigned t indexed

-- the slot does not open again; one that was not to open refuses the stop
abbrev pub stopped_desire : ScannerTable → IndexedSlot → Result Effect StepFault
stopped_desire t indexed = if indexed.slot.desired_up then Ok (slot_resigned t indexed) else Err fault.NotAllowedNow

-- A stop by the state of the slot. A slot that was not started, or that closes for good already, refuses it.
abbrev pub stopped : ScannerTable → IndexedSlot → SlotState → Result Effect StepFault
stopped t indexed Idle = stopped_desire t indexed
stopped t indexed (Opening o) = Ok (dropped t indexed (requested_link o.requested))
stopped t indexed (Established c) = Ok (closed_within t indexed c.link (session_with t indexed.config.target))
stopped t indexed (TimedOut link) = Ok (dropped t indexed link)
stopped t indexed (Closing c) = stopped_desire t indexed

-- the stop of the slot that the lookup found, if any
abbrev pub stopped_at : ScannerTable → Option IndexedSlot → Result Effect StepFault
stopped_at t None = Err fault.NoSuchSlot
stopped_at t (Some indexed) = stopped t indexed indexed.slot.state
