-- What a station tells its port of the targets of slots, and which slots get no data.
use Rattle.std.specs.Prelude.{ℕ, ◌-◌, ◌==◌, ◌&&◌, ◌||◌, not, if◌then◌else◌, Bool, true, false, List, [], ◌∷◌, Option, Some, None}
use Rattle.std.specs.List.{list_any}
use Rattle.cip_types.specs.declared.names.Node.{Node}
use Rattle.cip_events.specs.declared.event.Event.{Event}
use Rattle.cip_events.specs.declared.event.Event.TheVariants as event
use Rattle.cip_events.specs.declared.event.Notice.{Notice}
use Rattle.cip_events.specs.declared.event.Notice.TheVariants as notice
use Rattle.scanner_table.specs.declared.report.SlotReport.{SlotReport}
use Rattle.scanner_table.specs.declared.report.SlotReport.TheVariants as slot
use Rattle.udp_runner.specs.Groups.GroupUse.{with_group}
use Rattle.udp_runner.specs.declared.groups.group.DataGroup.{DataGroup}
use Rattle.station_lines.specs.declared.watch.slots.LinkReport.{LinkReport}
use Rattle.station_lines.specs.declared.watch.slots.LinkReport.TheVariants as link_report
use Rattle.station_lines.specs.declared.watch.slots.SlotWatch.{SlotWatch}

-- THE STATES OF A SLOT

abbrev pub idle : ℕ
idle = 0

abbrev pub opening : ℕ
opening = 2

abbrev pub established : ℕ
established = 3

abbrev pub timed_out : ℕ
timed_out = 4

abbrev pub closing : ℕ
closing = 6

-- WHAT A PORT IS TOLD

-- time passed
abbrev pub is_tick : Event → Bool
is_tick (event.Tick ms) = true
is_tick other = false

-- a slot that was in this state waited for the answer to a request
abbrev pub waits : Option ℕ → Bool
waits None = false
waits (Some state) = (state == opening) || (state == closing)

-- of a slot that was in the first state and is in the second one: a connection is established; or, as time passes, a request was not
-- answered. (A connection that timed out says nothing of the stream of its target, nor does a request that was not answered while
-- another slot of the target is established.)
abbrev pub slot_link_report : Bool → Option ℕ → ℕ → ℕ → Option LinkReport
slot_link_report ticks before number state =
    if state == established then Some (link_report.Succeed number)
    else (if ticks && waits before then Some (link_report.Renew number) else None)

abbrev pub link_report_of : Event → Option ℕ → Notice → Option LinkReport
link_report_of given before (notice.Slot slot state) = slot_link_report (is_tick given) before slot state
link_report_of given before other = None

-- the slot whose connection, or the request for one, ended as time passed
abbrev pub slot_ended : Bool → ℕ → ℕ → Option ℕ
slot_ended ticks slot state = if ticks && ((state == idle) || (state == timed_out)) then Some slot else None

abbrev pub ended_slot : Event → Notice → Option ℕ
ended_slot given (notice.Slot slot state) = slot_ended (is_tick given) slot state
ended_slot given other = None

-- the slot is established, and is of this target
abbrev pub serves : Node → SlotWatch → Bool
serves target watch = (watch.state == established) && (watch.target.0 == target.0)

-- the slot waits for the reply to a Forward_Open
abbrev pub is_opening : Option SlotReport → Bool
is_opening (Some slot.Opening) = true
is_opening other = false

-- the stream of a slot in this state, whose request was not answered, is to be opened anew: no slot of its target is established, and
-- it has not sent the next Forward_Open over it, as a tidy one does whose Forward_Close was not answered
abbrev pub is_renewed : List SlotWatch → Node → Option SlotReport → Bool
is_renewed slots target report = not (list_any (serves target) slots) && not (is_opening report)

-- WHAT COMES

-- its connection was established, with this id of its datagrams, and the reply named this group
abbrev pub opened : SlotWatch → Option ℕ → Option DataGroup → SlotWatch
opened watch (Some id) group = record watch { unfed = true; missized = false; id = Some id; group = group }
opened watch None group = record watch { unfed = false; missized = false; id = None; group = None }

-- this is the id
abbrev pub is_id : Option ℕ → ℕ → Bool
is_id None expected = false
is_id (Some id) expected = id == expected

-- a datagram of this target and this id was accepted
abbrev pub fed : SlotWatch → Node → ℕ → SlotWatch
fed watch target id = if (watch.target.0 == target.0) && is_id watch.id id then record watch { unfed = false } else watch

-- the bytes of data of a datagram of so many bytes
abbrev pub data_len : ℕ → ℕ
data_len len = len - 20

-- the slot is of this target and this id, and no datagram of another size was told of it
abbrev pub awaits_size : Node → ℕ → SlotWatch → Bool
awaits_size target id watch = (watch.target.0 == target.0) && (is_id watch.id id && not watch.missized)

-- WHICH GROUPS ARE HEARD

abbrev pub idle_in : ℕ → ℕ → Option ℕ
idle_in slot state = if state == idle then Some slot else None

-- the slot that a notice says to be idle, which has no group from then on
abbrev pub idle_slot : Notice → Option ℕ
idle_slot (notice.Slot slot state) = idle_in slot state
idle_slot other = None

-- these groups with those of the slots, each once
abbrev pub with_groups : List SlotWatch → List DataGroup → List DataGroup
with_groups [] groups = groups
with_groups (slot ∷ slots) groups = with_groups slots (with_group groups slot.group)

-- WHOSE DATA NEVER CAME

-- its target sends to a group, and nothing of its connection was accepted
abbrev pub is_starved : SlotWatch → Bool
is_starved watch = watch.multicast && watch.unfed
