-- The slots of a scanner with their numbers, and the state of each connection (Volume 1, chapter 3, connection object
-- state).
use Rattle.std.specs.Prelude.{ℕ, suc, ◌==◌, nat_le, ◌&&◌, ◌||◌, Bool, true, false, List, [], ◌∷◌, find, slice_set, Option}
use Rattle.cip_types.specs.declared.names.Node.{Node}
use Rattle.cip_types.specs.declared.names.Ms.{Ms}
use Rattle.scanner_table.specs.declared.profile.SlotConfig.{SlotConfig}
use Rattle.scanner_table.specs.declared.slot.Slot.{Slot}
use Rattle.scanner_table.specs.declared.slot.SlotState.{SlotState}
use Rattle.scanner_table.specs.declared.slot.SlotState.TheVariants.{Idle, Opening, Established, TimedOut, Closing}
use Rattle.scanner_table.specs.declared.table.ScannerTable.{ScannerTable}

-- INDEXED SLOTS

-- a slot with its number and its configuration
pub record IndexedSlot : Type 0 where
  pub number : ℕ
  pub config : SlotConfig
  pub slot : Slot

-- the slots with their configurations, numbered from this number on
abbrev pub indexed_from : ℕ → List SlotConfig → List Slot → List IndexedSlot
indexed_from number [] slots = []
indexed_from number (config ∷ configs) [] = []
indexed_from number (config ∷ configs) (slot ∷ slots) = record { number = number; config = config; slot = slot } ∷ indexed_from (suc number) configs slots

abbrev pub indexed_slots : ScannerTable → List IndexedSlot
indexed_slots t = indexed_from 0 t.profile.slots t.slots

abbrev pub is_numbered : ℕ → IndexedSlot → Bool
is_numbered number indexed = indexed.number == number

-- the slot of this number, if the scanner has one
abbrev pub slot_at : ScannerTable → ℕ → Option IndexedSlot
slot_at t number = find (is_numbered number) (indexed_slots t)

-- the slot connects to this target
abbrev pub is_with : Node → IndexedSlot → Bool
is_with target indexed = indexed.config.target.0 == target.0

-- the table with another slot under this number
abbrev pub with_slot : ScannerTable → ℕ → Slot → ScannerTable
with_slot t number slot = record t { slots = slice_set t.slots number slot }

-- STATES

-- the number of a state in the standard and in notices
abbrev pub number_of : SlotState → ℕ
number_of Idle = 0
number_of (Opening o) = 2
number_of (Established c) = 3
number_of (TimedOut link) = 4
number_of (Closing c) = 6

-- the slot has no connection and waits for no reply, so it may open
abbrev pub is_closed : SlotState → Bool
is_closed Idle = true
is_closed (Opening o) = false
is_closed (Established c) = false
is_closed (TimedOut link) = true
is_closed (Closing c) = false

-- the slot has sent a Forward_Open, and waits for the reply
abbrev pub is_opening : SlotState → Bool
is_opening Idle = false
is_opening (Opening o) = true
is_opening (Established c) = false
is_opening (TimedOut link) = false
is_opening (Closing c) = false

-- no datagram came in time, and the target may still have the connection
abbrev pub is_timed_out : SlotState → Bool
is_timed_out Idle = false
is_timed_out (Opening o) = false
is_timed_out (Established c) = false
is_timed_out (TimedOut link) = true
is_timed_out (Closing c) = false

-- the connection is desired, or it has timed out and is not closed yet
abbrev pub needs_request : Slot → Bool
needs_request slot = slot.desired_up || is_timed_out slot.state

-- the slot needs a request, its connection is not open, and its retry time has come
abbrev pub is_ready : Ms → Slot → Bool
is_ready clock slot = needs_request slot && (is_closed slot.state && nat_le slot.retry_at.0 clock.0)
