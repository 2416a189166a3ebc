-- Productions of the slots: when each is due, and which datagram it sends (Volume 1, chapter 3, class 1 transport and real
-- time formats; Volume 2, chapter 2, sequenced address item).
use Rattle.std.specs.Prelude.{ℕ, ◌==◌, ◌&&◌, ◌||◌, nat_lt, Bool, true, false, if◌then◌else◌, List, [], ◌∷◌, ◌++◌, map, filter, Option, Some, None}
use Rattle.std.specs.Int.{w32, to_le_bytes}
use Rattle.std.specs.List.{filter_map}
use Rattle.cip_types.specs.declared.names.Ms.{Ms}
use Rattle.cip_types.specs.Order.{in_order}
use Rattle.cip_netparams.specs.declared.Trigger.{Trigger}
use Rattle.cip_netparams.specs.declared.Trigger.TheVariants.{Cyclic, ChangeOfState}
use Rattle.cip_datagram.specs.Header.{mode_header}
use Rattle.cip_productions.specs.Kinds.{is_owner}
use Rattle.cip_productions.specs.declared.production.Production.{Production}
use Rattle.cip_productions.specs.declared.production.Producer.{Producer}
use Rattle.cip_productions.specs.Productions.{is_production_due, produced, sooner_due, Produced, produced_by}
use Rattle.scanner_table.specs.declared.slot.SlotConnection.{SlotConnection}
use Rattle.scanner_table.specs.declared.slot.Slot.{Slot}
use Rattle.scanner_table.specs.declared.slot.SlotState.{SlotState}
use Rattle.scanner_table.specs.declared.slot.SlotState.TheVariants.{Idle, Opening, Established, TimedOut, Closing}
use Rattle.scanner_table.specs.declared.table.ScannerTable.{ScannerTable}
use Rattle.scanner_table.specs.Slots.{IndexedSlot, indexed_slots}

-- THE TRIGGER OF A SLOT

-- with `tidy` a slot produces by its own trigger; without it each slot is cyclic
abbrev pub producer_trigger : Bool → Trigger → Trigger
producer_trigger true trigger = trigger
producer_trigger false trigger = Cyclic

-- its production inhibit time, which a cyclic producer does not have
abbrev pub producer_inhibit : Bool → ℕ → ℕ
producer_inhibit true inhibit = inhibit
producer_inhibit false inhibit = 0

-- NEW DATA

-- the due time of a producer that has new data: a change-of-state producer is due when its production inhibit time is over
abbrev pub due_on_change : Trigger → Option Ms → ℕ → Ms → Ms
due_on_change Cyclic last inhibit due = due
due_on_change ChangeOfState last inhibit due = sooner_due last inhibit due

-- the producer has new data
abbrev pub written_production : Production → Production
written_production p = record p { written = true; due = due_on_change p.trigger p.last p.inhibit p.due }

abbrev pub written_connection : SlotConnection → SlotConnection
written_connection c = record c { production = written_production c.production }

-- an established connection's producer has new data
abbrev pub written_state : SlotState → SlotState
written_state Idle = Idle
written_state (Opening o) = Opening o
written_state (Established c) = Established (written_connection c)
written_state (TimedOut link) = TimedOut link
written_state (Closing c) = Closing c

-- THE DATAGRAM OF A SLOT

-- the data of a slot: an exclusive owner sends the run/idle header and its output, another kind sends no data
abbrev pub slot_data : Bool → IndexedSlot → List ℕ
slot_data run indexed = if is_owner indexed.config.kind then to_le_bytes w32 (mode_header run) ++ indexed.slot.output else []

-- the producer of a slot's connection
abbrev pub connection_producer : IndexedSlot → SlotConnection → Producer
connection_producer indexed c = record { point = indexed.number; id = c.link.o_t_id; production = c.production }

-- the next production of a connection, for its target alone
abbrev pub connection_production : Bool → IndexedSlot → SlotConnection → Produced
connection_production run indexed c = produced_by (indexed.config.target ∷ []) (slot_data run indexed) (connection_producer indexed c)

abbrev pub state_production : Bool → IndexedSlot → SlotState → Option Produced
state_production run indexed Idle = None
state_production run indexed (Opening o) = None
state_production run indexed (Established c) = Some (connection_production run indexed c)
state_production run indexed (TimedOut link) = None
state_production run indexed (Closing c) = None

-- the next production of a slot, if its connection is established
abbrev pub slot_production : Bool → IndexedSlot → Option Produced
slot_production run indexed = state_production run indexed indexed.slot.state

-- DUE SLOTS

abbrev pub state_is_due : Ms → SlotState → Bool
state_is_due clock Idle = false
state_is_due clock (Opening o) = false
state_is_due clock (Established c) = is_production_due clock c.production
state_is_due clock (TimedOut link) = false
state_is_due clock (Closing c) = false

abbrev pub is_due : Ms → IndexedSlot → Bool
is_due clock indexed = state_is_due clock indexed.slot.state

abbrev pub due_of : SlotState → ℕ
due_of Idle = 0
due_of (Opening o) = 0
due_of (Established c) = c.production.due.0
due_of (TimedOut link) = 0
due_of (Closing c) = 0

-- by their due times, and then by their numbers
abbrev pub by_due : IndexedSlot → IndexedSlot → Bool
by_due indexed other =
    nat_lt (due_of indexed.slot.state) (due_of other.slot.state) || (due_of indexed.slot.state == due_of other.slot.state && nat_lt indexed.number other.number)

abbrev pub due_slots : ScannerTable → List IndexedSlot
due_slots t = in_order by_due (filter (is_due t.clock) (indexed_slots t))

-- the productions of the due slots
abbrev pub due_productions : ScannerTable → List Produced
due_productions t = filter_map (slot_production t.run) (due_slots t)

abbrev pub produced_connection : Ms → SlotConnection → SlotConnection
produced_connection clock c = record c { production = produced clock c.o_t_api_ms c.production }

abbrev pub produced_state : Ms → SlotState → SlotState
produced_state clock Idle = Idle
produced_state clock (Opening o) = Opening o
produced_state clock (Established c) = Established (produced_connection clock c)
produced_state clock (TimedOut link) = TimedOut link
produced_state clock (Closing c) = Closing c

-- the slot after its production, if it was due
abbrev pub produced_slot : Ms → Slot → Slot
produced_slot clock slot = if state_is_due clock slot.state then record slot { state = produced_state clock slot.state } else slot

-- the table after the due productions
unfoldable pub produced_table : ScannerTable → ScannerTable
produced_table t = record t { slots = map (produced_slot t.clock) t.slots }
