-- Openings: a slot whose connection is desired sends a Forward_Open to its target. With `tidy` it first closes a connection
-- that timed out (Volume 1, chapter 3, Forward_Open and Forward_Close services).
use Rattle.std.specs.Prelude.{ℕ, ◌+◌, ◌^◌, ◌==◌, ◌&&◌, ◌||◌, nat_le, nat_lt, Bool, true, false, if◌then◌else◌, List, [], ◌∷◌, length, filter, Option, Some, None}
use Rattle.cip_types.specs.Ids.{end_number}
use Rattle.cip_types.specs.declared.names.Node.{Node}
use Rattle.cip_types.specs.declared.names.Ms.{Ms}
use Rattle.cip_events.specs.declared.event.Notice.TheVariants as notice
use Rattle.conn_state.specs.declared.names.Link.{Link}
use Rattle.scanner_table.specs.declared.profile.SlotConfig.{SlotConfig}
use Rattle.scanner_table.specs.declared.slot.Slot.{Slot}
use Rattle.scanner_table.specs.declared.slot.SlotState.{SlotState}
use Rattle.scanner_table.specs.declared.slot.SlotState.TheVariants.{Idle, Opening, TimedOut, Closing}
use Rattle.scanner_table.specs.declared.table.ScannerTable.{ScannerTable}
use Rattle.scanner_table.specs.Slots.{IndexedSlot, indexed_slots, is_with, is_opening, is_ready}
use Rattle.scanner_table.specs.declared.table.Session.{Session}
use Rattle.scanner_table.specs.Sessions.{session_with}
use Rattle.scanner_table.specs.Requests.{opening, closing, is_large, next_requested, open_fields, close_fields}
use Rattle.scanner_table.specs.Effects.{Effect, nothing, on_each, changed, request_sent}

-- NUMBERS

-- a request number is left
abbrev pub has_request : ScannerTable → Bool
has_request t = nat_le t.next_request (2 ^ 48)

-- a connection id is left, or the slot needs none, since the target chooses the id of a multicast connection
abbrev pub has_id : ScannerTable → SlotConfig → Bool
has_id t config = config.multicast || nat_lt t.next_id (end_number t.ids)

abbrev pub can_open : ScannerTable → SlotConfig → Bool
can_open t config = has_request t && has_id t config

-- the serial number of an opening is never 0
abbrev pub serial_after : ℕ → ℕ
serial_after serial = if serial == 65535 then 1 else serial + 1

abbrev pub id_after : SlotConfig → ℕ → ℕ
id_after config counter = if config.multicast then counter else counter + 1

-- the table after an opening of the slot took a serial number and, if it is point to point, a connection id
abbrev pub drawn : ScannerTable → SlotConfig → ScannerTable
drawn t config = record t { next_id = id_after config t.next_id; next_serial = serial_after t.next_serial }

-- TURNS

-- the slot has sent a Forward_Open to this target, and waits for the reply
abbrev pub opens_at : Node → IndexedSlot → Bool
opens_at target indexed = is_with target indexed && is_opening indexed.slot.state

-- one more is at most the limit, if there is one
abbrev pub leaves_room : Option ℕ → ℕ → Bool
leaves_room None count = true
leaves_room (Some most) count = nat_lt count most

-- how many openings wait for replies of the target
abbrev pub openings_at : ScannerTable → Node → ℕ
openings_at t target = length (filter (opens_at target) (indexed_slots t))

-- fewer of them wait than the profile allows at one time
abbrev pub has_place : ScannerTable → Node → Bool
has_place t target = leaves_room t.profile.openings (openings_at t target)

-- the session in which a slot of the target opens: none while the slot waits for its turn
abbrev pub open_session : ScannerTable → Node → Option Session
open_session t target = if has_place t target then session_with t target else None

-- OPENING ONE

abbrev pub later : Ms → ℕ → Ms
later clock ms = record { 0 = clock.0 + ms }

-- the slot waits for the reply to its Forward_Open
abbrev pub opening_slot : ScannerTable → IndexedSlot → Slot
opening_slot t indexed = record indexed.slot {
  state = Opening (record { request = t.next_request; requested = next_requested t indexed.config; deadline = later t.clock t.profile.open_timeout });
}

-- the slot is idle, and its connection is no longer desired
abbrev pub resigned : Slot → Slot
resigned slot = record slot { state = Idle; desired_up = false }

-- no number is left for the request of the slot: it stays closed, and a notice says so
abbrev pub exhausted : ScannerTable → IndexedSlot → Effect
exhausted t indexed = changed t indexed (resigned indexed.slot) (notice.NoIds indexed.number ∷ [])

-- the slot sends a Forward_Open
abbrev pub open_requested : ScannerTable → IndexedSlot → Session → Effect
open_requested t indexed session =
    request_sent (drawn t indexed.config) indexed session (opening (is_large indexed.config) (open_fields t.profile indexed.config (next_requested t indexed.config))) (opening_slot t indexed)

-- the slot opens over a session, if one is registered and numbers are left
abbrev pub opened_within : ScannerTable → IndexedSlot → Option Session → Effect
opened_within t indexed None = nothing t
opened_within t indexed (Some session) = if can_open t indexed.config then open_requested t indexed session else exhausted t indexed

-- CLOSING BEFORE AN OPENING

-- the slot waits for the reply to its Forward_Close; then its connection is desired or not
abbrev pub closing_slot : ScannerTable → Link → Bool → Slot → Slot
closing_slot t link desired_up slot = record slot {
  state = Closing (record { request = t.next_request; link = link; deadline = later t.clock t.profile.open_timeout });
  desired_up = desired_up;
}

-- the slot sends a Forward_Close
abbrev pub close_requested : ScannerTable → IndexedSlot → Link → Bool → Session → Effect
close_requested t indexed link desired_up session =
    request_sent t indexed session (closing (close_fields indexed.config link.triad)) (closing_slot t link desired_up indexed.slot)

-- the slot closes a connection that timed out, if a session with its target is registered
abbrev pub cleared_within : ScannerTable → IndexedSlot → Link → Option Session → Effect
cleared_within t indexed link None = nothing t
cleared_within t indexed link (Some session) =
    if has_request t then close_requested t indexed link indexed.slot.desired_up session else exhausted t indexed

-- what a slot in a state does to open: with `tidy` it first closes a connection that timed out
abbrev pub opened_from : ScannerTable → IndexedSlot → Option Session → SlotState → Effect
opened_from t indexed session (TimedOut link) = if t.profile.tidy then cleared_within t indexed link session else opened_within t indexed session
opened_from t indexed session other = opened_within t indexed session

-- the session in which a slot in a state asks its target: to open in its turn, and to close a connection that timed out at once
abbrev pub asking_in : ScannerTable → Node → SlotState → Option Session
asking_in t target (TimedOut link) = if t.profile.tidy then session_with t target else open_session t target
asking_in t target other = open_session t target

abbrev pub asking_session : ScannerTable → IndexedSlot → Option Session
asking_session t indexed = asking_in t indexed.config.target indexed.slot.state

-- a slot opens, if the session with its target is registered, and it is its turn
unfoldable pub opened : ScannerTable → IndexedSlot → Effect
opened t indexed = opened_from t indexed (asking_session t indexed) indexed.slot.state

-- OPENING ALL READY SLOTS

abbrev pub is_ready_slot : Ms → IndexedSlot → Bool
is_ready_slot clock indexed = is_ready clock indexed.slot

-- the slots that are ready to open, in the order of their numbers
abbrev pub ready_slots : ScannerTable → List IndexedSlot
ready_slots t = filter (is_ready_slot t.clock) (indexed_slots t)

-- all ready slots open
unfoldable pub ready_opened : ScannerTable → Effect
ready_opened t = on_each opened (ready_slots t) t

-- the ready slots of one target open
unfoldable pub target_opened : Node → ScannerTable → Effect
target_opened target t = on_each opened (filter (is_with target) (ready_slots t)) t
