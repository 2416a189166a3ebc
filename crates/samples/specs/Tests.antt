-- Laws of order as tests of one chronicle, each of which passes where its law holds.
use Rattle.std.specs.Prelude.{ℕ, ◌^◌, ◌%◌, ◌==◌, ◌&&◌, ◌||◌, not, Bool, true, false, find, slice_get, Option, Some, None}
use Rattle.std.specs.List.{list_all}
use Rattle.std.specs.Str.{bytes_eq}
use Rattle.cip_productions.specs.Kinds.{is_owner}
use Rattle.adapter_table.specs.declared.profile.InputPoint.{InputPoint}
use Rattle.adapter_table.specs.declared.profile.Profile.{Profile}
use Rattle.adapter_table.specs.declared.admission.ConsumedPoint.{ConsumedPoint}
use Rattle.adapter_table.specs.Checks.{consumed_point_of, input_of}
use Rattle.adapter_table.specs.Connections.{Row}
use Rattle.adapter_table.specs.Newest.{was_opened_as}
use Rattle.scanner_table.specs.declared.profile.SlotConfig.{SlotConfig}
use Rattle.scanner_table.specs.Slots.{IndexedSlot, indexed_slots}
use Rattle.cip_tables.specs.declared.table.DeviceTable.{DeviceTable}
use Rattle.cip_tables.specs.declared.table.DeviceTable.TheVariants.{Adapter, Scanner}
use Rattle.device_laws.specs.Productions.{end_at, is_end, Production}
use Rattle.device_laws.specs.ProductionRuns.{opening_number}
use Rattle.schedule_laws.specs.Chronicle.{Acceptance, Chronicle, Opened, opens_row, opens_slot}
use Rattle.samples.specs.Oracle.{is_of_opening, row_holds}

-- ---- the points of connections

abbrev pub same_delivery : Bool → Bool → Bool
same_delivery true other = other
same_delivery false other = not other

abbrev pub is_of_length : ℕ → Option InputPoint → Bool
is_of_length len None = false
is_of_length len (Some point) = point.len == len

abbrev pub consumes_length : ℕ → Option ConsumedPoint → Bool
consumes_length len None = false
consumes_length len (Some point) = point.len == len

-- the adapter's points have the slot's lengths
abbrev pub has_lengths_of : SlotConfig → Profile → Bool
has_lengths_of slot profile = consumes_length slot.out_len (consumed_point_of profile slot.consumed) && is_of_length slot.in_len (input_of profile slot.produced)

-- the connection has the points, the ownership and the delivery of the slot
abbrev pub has_points_of : SlotConfig → Row → Bool
has_points_of slot row =
    (row.consumed == slot.consumed && row.produced == slot.produced) && (same_delivery (is_owner row.kind) (is_owner slot.kind) && same_delivery row.multicast slot.multicast)

abbrev pub row_joins : SlotConfig → Profile → Option Row → Bool
row_joins slot profile None = true
row_joins slot profile (Some row) = has_points_of slot row && has_lengths_of slot profile

abbrev pub device_joins : SlotConfig → Opened → Option DeviceTable → Bool
device_joins slot entry None = true
device_joins slot entry (Some (Adapter t)) = row_joins slot t.profile (find (was_opened_as entry.row.number) t.rows)
device_joins slot entry (Some (Scanner t)) = true

abbrev pub entry_joins : Chronicle → SlotConfig → Option Opened → Bool
entry_joins c slot None = true
entry_joins c slot (Some entry) = device_joins slot entry (slice_get c.story.world.tables entry.row.device)

abbrev pub number_joins : Chronicle → ℕ → SlotConfig → Option ℕ → Bool
number_joins c device slot None = true
number_joins c device slot (Some number) = entry_joins c slot (find (opens_slot (end_at device number)) c.opened)

-- the connection that the slot's opening opened joins the slot's points
abbrev pub slot_joins : Chronicle → ℕ → IndexedSlot → Bool
slot_joins c device place = number_joins c device place.config (opening_number place.slot.state)

abbrev pub table_joins : Chronicle → ℕ → Option DeviceTable → Bool
table_joins c device None = true
table_joins c device (Some (Adapter t)) = true
table_joins c device (Some (Scanner t)) = list_all (slot_joins c device) (indexed_slots t)

-- so it is of each slot of the scanner at this place
abbrev pub joins_points : ℕ → Chronicle → Bool
joins_points device c = table_joins c device (slice_get c.story.world.tables device)

-- ---- what adapters accept, and what their outputs hold

abbrev pub is_named_by : Chronicle → Acceptance → Option DeviceTable → Bool
is_named_by c a None = true
is_named_by c a (Some (Adapter t)) = is_of_opening a (find (opens_row a.consumer) c.opened)
is_named_by c a (Some (Scanner t)) = true

-- what an adapter accepted was produced by the opening of its connection, and in run mode where it was applied
abbrev pub is_named : Chronicle → Acceptance → Bool
is_named c a = is_named_by c a (slice_get c.story.world.tables a.consumer.device)

abbrev pub are_named : Chronicle → Bool
are_named c = list_all (is_named c) c.accepted

abbrev pub table_holds : Chronicle → ℕ → Option DeviceTable → Bool
table_holds c device None = true
table_holds c device (Some (Adapter t)) = list_all (row_holds c device t) t.rows
table_holds c device (Some (Scanner t)) = true

-- the outputs of the adapter at this place hold the newest that was accepted in run mode
abbrev pub outputs_hold : ℕ → Chronicle → Bool
outputs_hold device c = table_holds c device (slice_get c.story.world.tables device)

-- ---- productions

-- sequence number and count are the indexes on their circles
abbrev pub is_numbered : Production → Bool
is_numbered p = p.made.datagram.sequence == p.index % 2 ^ 32 && p.made.datagram.count == p.new_data % 2 ^ 16

-- two productions of one producer with one new-data index have equal data
abbrev pub agree : Production → Production → Bool
agree p q = not (is_end p.producer q.producer && p.new_data == q.new_data) || bytes_eq p.made.datagram.payload q.made.datagram.payload

abbrev pub agrees : Chronicle → Production → Bool
agrees c p = list_all (agree p) c.produced

abbrev pub are_numbered : Chronicle → Bool
are_numbered c = list_all is_numbered c.produced && list_all (agrees c) c.produced
