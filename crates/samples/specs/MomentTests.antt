-- What the laws of two moments of one schedule say, as tests.
use Rattle.std.specs.Prelude.{ℕ, ◌==◌, ◌&&◌, ◌||◌, ◌++◌, not, Bool, false, List, [], ◌∷◌, replicate, slice_get, unwrap_or, Option, Some, None, Result, Ok, Err}
use Rattle.std.specs.Int.{w32, to_le_bytes}
use Rattle.std.specs.List.{list_all, list_any}
use Rattle.std.specs.Str.{bytes_eq}
use Rattle.cip_datagram.specs.Header.{mode_header}
use Rattle.cip_events.specs.declared.event.Event.{Event}
use Rattle.cip_events.specs.declared.event.Event.TheVariants as event
use Rattle.adapter_table.specs.Connections.{Row}
use Rattle.adapter_table.specs.declared.table.AdapterTable.{AdapterTable}
use Rattle.adapter_table.specs.Points.{bytes_at}
use Rattle.adapter_table.specs.Productions.{producer_of}
use Rattle.adapter_table.specs.Rows.{is_established}
use Rattle.scanner_table.specs.declared.table.ScannerTable.{ScannerTable}
use Rattle.scanner_table.specs.Slots.{IndexedSlot, indexed_slots}
use Rattle.device_laws.specs.Newest.{came_from}
use Rattle.device_laws.specs.Scratch.{last_output}
use Rattle.cip_tables.specs.declared.table.Config.{Config}
use Rattle.cip_tables.specs.declared.table.DeviceTable.{DeviceTable}
use Rattle.cip_tables.specs.declared.table.DeviceTable.TheVariants.{Adapter, Scanner}
use Rattle.segment_world.specs.declared.act.Act.{Act}
use Rattle.segment_world.specs.declared.act.ActFault.{ActFault}
use Rattle.segment_world.specs.Configs.{opening_world}
use Rattle.segment_world.specs.Story.{events_of}
use Rattle.segment_world.specs.World.{Happened, happens}
use Rattle.device_laws.specs.Made.{Made}
use Rattle.device_laws.specs.Productions.{End, Production}
use Rattle.device_laws.specs.ProductionRuns.{opening_number}
use Rattle.schedule_laws.specs.Chronicle.{Acceptance, Chronicle, blank, then_act}
use Rattle.samples.specs.NameTests.{device_of}

-- ---- which slot has an opening number

abbrev pub has_number : ℕ → Option ℕ → Bool
has_number number None = false
has_number number (Some n) = n == number

abbrev pub has_opening : ℕ → IndexedSlot → Bool
has_opening number place = has_number number (opening_number place.slot.state)

abbrev pub is_one_slot : ℕ → IndexedSlot → IndexedSlot → Bool
is_one_slot number first later = not (has_opening number first && has_opening number later) || first.number == later.number

abbrev pub is_still : ℕ → ScannerTable → IndexedSlot → Bool
is_still number later first = list_all (is_one_slot number first) (indexed_slots later)

-- what has the number in the one table and in the other is one slot
abbrev pub one_slot_has : ℕ → ScannerTable → ScannerTable → Bool
one_slot_has number first later = list_all (is_still number later) (indexed_slots first)

-- ---- what was written before

-- the chronicle of a moment passes, with the acts that are left
abbrev pub passes_at : (Chronicle → List Act → Bool) → Result Chronicle ActFault → List Act → Bool
passes_at test (Err fault) late = false
passes_at test (Ok c) late = test c late

abbrev pub any_moment : (Chronicle → List Act → Bool) → Result Chronicle ActFault → List Act → Bool
any_moment test r [] = passes_at test r []
any_moment test r (act ∷ acts) = passes_at test r (act ∷ acts) || any_moment test (then_act r act) acts

-- some moment of the schedule passes
abbrev pub once : (Chronicle → List Act → Bool) → List Config → List Act → Bool
once test configs acts = any_moment test (Ok (blank (opening_world configs))) acts

abbrev pub slot_held : Chronicle → ScannerTable → End → List ℕ → IndexedSlot → Bool
slot_held was first opening bytes place =
    came_from opening.number place.slot.state
    && (bytes_eq bytes place.slot.output && bytes_eq bytes (unwrap_or (last_output place.number first (events_of opening.device was.story.reported)) (replicate place.config.out_len 0)))

abbrev pub scanner_held : Chronicle → ScannerTable → End → List ℕ → Option DeviceTable → Bool
scanner_held was first opening bytes None = false
scanner_held was first opening bytes (Some (Adapter t)) = false
scanner_held was first opening bytes (Some (Scanner t)) = list_any (slot_held was first opening bytes) (indexed_slots t)

abbrev pub began_and_held : Chronicle → End → List ℕ → Option DeviceTable → Bool
began_and_held was opening bytes None = false
began_and_held was opening bytes (Some (Adapter t)) = false
began_and_held was opening bytes (Some (Scanner first)) = scanner_held was first opening bytes (device_of was opening.device)

-- the slot of the opening holds the bytes, and its application wrote them
abbrev pub held_output : List Config → End → List ℕ → Chronicle → List Act → Bool
held_output configs opening bytes was late = began_and_held was opening bytes (slice_get (opening_world configs).tables opening.device)

abbrev pub carries_value : Made → Bool
carries_value m = bytes_eq m.datagram.payload (to_le_bytes w32 (mode_header m.run) ++ m.value) || bytes_eq m.datagram.payload []

abbrev pub was_written : List Config → List Act → Production → Bool
was_written configs acts p = once (held_output configs p.producer p.made.value) configs acts && carries_value p.made

abbrev pub is_written : List Config → List Act → Acceptance → Bool
is_written configs acts a = was_written configs acts a.production

-- each production that was accepted was written before
abbrev pub were_written : List Config → List Act → Chronicle → Bool
were_written configs acts c = list_all (is_written configs acts) c.accepted

-- ---- what was an input before

abbrev pub event_writes : ℕ → List ℕ → Event → Bool
event_writes point bytes (event.Write other text) = other == point && bytes_eq text bytes
event_writes point bytes other = false

abbrev pub happening_writes : ℕ → ℕ → List ℕ → Happened → Bool
happening_writes device point bytes (Err fault) = false
happening_writes device point bytes (Ok (None, new)) = false
happening_writes device point bytes (Ok (Some reported, new)) = reported.device == device && event_writes point bytes reported.event

-- the next act writes the bytes at the input
abbrev pub next_writes : Chronicle → List Act → ℕ → ℕ → List ℕ → Bool
next_writes was [] device point bytes = false
next_writes was (act ∷ rest) device point bytes = happening_writes device point bytes (happens was.story.world act)

abbrev pub row_held : Chronicle → List Act → AdapterTable → End → List ℕ → Row → Bool
row_held was late t producer bytes row =
    (is_established row && producer_of row.state == producer.number)
    && (bytes_eq bytes (unwrap_or (bytes_at t.values row.produced) []) || next_writes was late producer.device row.produced bytes)

abbrev pub adapter_held : Chronicle → List Act → End → List ℕ → Option DeviceTable → Bool
adapter_held was late producer bytes None = false
adapter_held was late producer bytes (Some (Adapter t)) = list_any (row_held was late t producer bytes) t.rows
adapter_held was late producer bytes (Some (Scanner t)) = false

-- the producer's input holds the bytes
abbrev pub held_input : End → List ℕ → Chronicle → List Act → Bool
held_input producer bytes was late = adapter_held was late producer bytes (device_of was producer.device)

abbrev pub was_input : List Config → List Act → Production → Bool
was_input configs acts p = once (held_input p.producer p.made.value) configs acts && bytes_eq p.made.datagram.payload p.made.value

abbrev pub is_input : List Config → List Act → Acceptance → Bool
is_input configs acts a = was_input configs acts a.production

-- each production that was accepted was an input before
abbrev pub were_inputs : List Config → List Act → Chronicle → Bool
were_inputs configs acts c = list_all (is_input configs acts) c.accepted
