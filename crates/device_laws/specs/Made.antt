-- What a device produces at an event, as its table says: which producer made each datagram that is sent, whether its data
-- are new, and what was produced (Volume 1, chapter 3, class 1 transport).
use Rattle.std.specs.Prelude.{ℕ, ◌≡◌, Bool, true, List, [], map, Option, Some, None, Ok}
use Rattle.std.specs.List.{filter_map}
use Rattle.cip_datagram.specs.Datagram.{DatagramFields, datagram_text}
use Rattle.cip_events.specs.declared.event.Answer.{Answer}
use Rattle.cip_events.specs.declared.event.Event.{Event}
use Rattle.cip_events.specs.declared.event.Event.TheVariants.{Write, Tick}
use Rattle.cip_events.specs.declared.event.OutgoingDatagram.{OutgoingDatagram}
use Rattle.cip_productions.specs.declared.production.Producer.{Producer}
use Rattle.cip_productions.specs.Productions.{production_datagram}
use Rattle.adapter_table.specs.Connections.{Row}
use Rattle.adapter_table.specs.declared.table.AdapterTable.{AdapterTable}
use Rattle.adapter_table.specs.declared.table.PointValue.{PointValue}
use Rattle.adapter_table.specs.Productions.{due_producers, input_of, producers_on_change}
use Rattle.adapter_table.specs.Step.{written_table}
use Rattle.adapter_table.specs.Ticks.{clocked_table, expired_table}
use Rattle.scanner_table.specs.declared.slot.SlotConnection.{SlotConnection}
use Rattle.scanner_table.specs.declared.slot.SlotState.{SlotState}
use Rattle.scanner_table.specs.declared.slot.SlotState.TheVariants.{Idle, Opening, Established, TimedOut, Closing}
use Rattle.scanner_table.specs.declared.table.ScannerTable.{ScannerTable}
use Rattle.scanner_table.specs.Productions.{slot_data, due_slots}
use Rattle.scanner_table.specs.Slots.{IndexedSlot}
use Rattle.scanner_table.specs.Ticks.{clocked_table as scanner_clocked, advanced}
use Rattle.cip_tables.specs.declared.table.DeviceTable.{DeviceTable}
use Rattle.cip_tables.specs.declared.table.DeviceTable.TheVariants.{Adapter, Scanner}
use Rattle.cip_tables.specs.Step.{step}

-- One production: the number of its producer, which is an adapter's producer number, or the request number of a scanner's
-- opening; whether the count rises with it; whether the application is in run mode, which an adapter's always is; what the
-- producer's input or output holds; and the datagram.
pub record Made : Type 0 where
  pub number : ℕ
  pub is_new_data : Bool
  pub run : Bool
  pub value : List ℕ
  pub datagram : DatagramFields

-- AN ADAPTER

abbrev pub adapter_made : List ℕ → Producer → Made
adapter_made input producer = record {
  number = producer.production.producer;
  is_new_data = producer.production.written;
  run = true;
  value = input;
  datagram = production_datagram producer.id producer.production input;
}

abbrev pub due_made : List PointValue → Producer → Made
due_made values producer = adapter_made (input_of values producer) producer

-- what the producers that are due make
abbrev pub advanced_made : AdapterTable → List Row → List Made
advanced_made clocked left = map (due_made clocked.values) (due_producers clocked.clock left)

-- what the change-of-state producers of an input make at once
abbrev pub changed_made : AdapterTable → ℕ → List ℕ → List Made
changed_made written point bytes = map (adapter_made bytes) (producers_on_change written.clock point written.rows)

abbrev pub adapter_makes : AdapterTable → Event → List Made
adapter_makes t (Write point bytes) = changed_made (written_table t point bytes) point bytes
adapter_makes t (Tick ms) = advanced_made (clocked_table t ms) (expired_table (clocked_table t ms)).rows
adapter_makes t other = []

-- A SCANNER

abbrev pub connection_made : Bool → IndexedSlot → SlotConnection → Made
connection_made run place c = record {
  number = c.opening;
  is_new_data = c.production.written;
  run = run;
  value = place.slot.output;
  datagram = production_datagram c.link.o_t_id c.production (slot_data run place);
}

abbrev pub state_made : Bool → IndexedSlot → SlotState → Option Made
state_made run place Idle = None
state_made run place (Opening o) = None
state_made run place (Established c) = Some (connection_made run place c)
state_made run place (TimedOut link) = None
state_made run place (Closing c) = None

abbrev pub slot_made : Bool → IndexedSlot → Option Made
slot_made run place = state_made run place place.slot.state

-- what the slots that are due make
abbrev pub places_made : ScannerTable → List Made
places_made t = filter_map (slot_made t.run) (due_slots t)

abbrev pub scanner_makes : ScannerTable → Event → List Made
scanner_makes t (Tick ms) = places_made (advanced (scanner_clocked t ms)).table
scanner_makes t other = []

-- EITHER

-- what a device makes at an event that it does not refuse
abbrev pub makes : DeviceTable → Event → List Made
makes (Adapter t) event = adapter_makes t event
makes (Scanner t) event = scanner_makes t event

abbrev pub bytes_sent : OutgoingDatagram → List ℕ
bytes_sent sending = sending.bytes

abbrev pub made_text : Made → List ℕ
made_text made = datagram_text made.datagram

-- the datagrams of an answer are what the device made, in order
abbrev pub AnswersSendWhatIsMade : Type 0
AnswersSendWhatIsMade =
    (t : DeviceTable) (event : Event) (answer : Answer) (next : DeviceTable) →
    step t event ≡ Ok (answer, next) → map bytes_sent answer.datagrams ≡ map made_text (makes t event)
