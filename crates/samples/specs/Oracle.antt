-- The laws of order as tests of one chronicle: what they say of every schedule, worked out at one.
use Rattle.std.specs.Prelude.{ℕ, ◌+◌, ◌==◌, ◌&&◌, ◌||◌, not, nat_lt, Bool, true, false, if◌then◌else◌, List, [], ◌∷◌, find, replicate, slice_get, Option, Some, None}
use Rattle.std.specs.List.{list_all, list_any}
use Rattle.std.specs.Str.{bytes_eq}
use Rattle.cip_events.specs.declared.event.Delivery.{Delivery}
use Rattle.cip_events.specs.declared.event.Delivery.TheVariants.{Applied, Idle, Heartbeat, Duplicate, Old, UnknownId, WrongSize, Malformed}
use Rattle.cip_productions.specs.Kinds.{is_owner}
use Rattle.adapter_table.specs.Connections.{Row}
use Rattle.adapter_table.specs.declared.table.AdapterTable.{AdapterTable}
use Rattle.adapter_table.specs.Points.{bytes_at}
use Rattle.adapter_table.specs.Productions.{is_produced_by}
use Rattle.adapter_table.specs.Rows.{is_established}
use Rattle.scanner_table.specs.Slots.{IndexedSlot, indexed_slots}
use Rattle.cip_tables.specs.declared.table.DeviceTable.{DeviceTable}
use Rattle.cip_tables.specs.declared.table.DeviceTable.TheVariants.{Adapter, Scanner}
use Rattle.device_laws.specs.Productions.{End, end_at, is_end, Production}
use Rattle.schedule_laws.specs.Chronicle.{Acceptance, Chronicle, Establishment, Opened, has_t_o_id, is_slot, newest, opens_row, opens_slot}

abbrev pub holds_bytes : List ℕ → Option (List ℕ) → Bool
holds_bytes bytes None = false
holds_bytes bytes (Some kept) = bytes_eq kept bytes

abbrev pub is_applied : Delivery → Bool
is_applied Applied = true
is_applied Idle = false
is_applied Heartbeat = false
is_applied Duplicate = false
is_applied Old = false
is_applied UnknownId = false
is_applied WrongSize = false
is_applied Malformed = false

-- ---- what was accepted

-- of what one end accepted the later one was produced later
abbrev pub later_than : Acceptance → Acceptance → Bool
later_than a b = not (is_end a.consumer b.consumer) || nat_lt b.production.index a.production.index

abbrev pub rises : List Acceptance → Bool
rises [] = true
rises (a ∷ rest) = list_all (later_than a) rest && rises rest

abbrev pub is_of_opening : Acceptance → Option Opened → Bool
is_of_opening a None = false
is_of_opening a (Some opened) = is_end a.production.producer opened.slot && (not (is_applied a.delivery) || a.production.made.run)

abbrev pub is_of_producer : Acceptance → Option Opened → Bool
is_of_producer a None = false
is_of_producer a (Some opened) = a.production.made.datagram.connection == opened.t_o_id.0 && is_end a.production.producer opened.producer

abbrev pub is_named_at : Chronicle → Acceptance → Option DeviceTable → Bool
is_named_at c a None = false
is_named_at c a (Some (Adapter t)) = is_of_opening a (find (opens_row a.consumer) c.opened)
is_named_at c a (Some (Scanner t)) = is_of_producer a (find (opens_slot a.consumer) c.opened)

-- it was produced by whom it should be
abbrev pub is_named : Chronicle → Acceptance → Bool
is_named c a = is_named_at c a (slice_get c.story.world.tables a.consumer.device)

-- ---- what points hold

abbrev pub output_holds : AdapterTable → Row → Option Acceptance → Bool
output_holds t row None = true
output_holds t row (Some a) = not a.production.made.run || holds_bytes a.production.made.value (bytes_at t.values row.consumed)

abbrev pub row_holds : Chronicle → ℕ → AdapterTable → Row → Bool
row_holds c device t row =
    if is_established row && is_owner row.kind then output_holds t row (newest (end_at device row.opening) c.accepted) else true

abbrev pub is_zeros : IndexedSlot → Bool
is_zeros place = bytes_eq place.slot.image (replicate place.config.in_len 0)

abbrev pub made_by : End → List ℕ → Production → Bool
made_by producer bytes p = is_end producer p.producer && bytes_eq p.made.value bytes

abbrev pub was_produced : Chronicle → List ℕ → Option Opened → Bool
was_produced c bytes None = false
was_produced c bytes (Some opened) = list_any (made_by opened.producer bytes) c.produced

abbrev pub image_is : Chronicle → IndexedSlot → Option Establishment → Bool
image_is c place None = is_zeros place
image_is c place (Some e) = is_zeros place || was_produced c place.slot.image (find (has_t_o_id e.t_o_id) c.opened)

abbrev pub slot_holds : Chronicle → ℕ → IndexedSlot → Bool
slot_holds c device place = image_is c place (find (is_slot device place.number) c.established)

abbrev pub device_holds : Chronicle → ℕ → DeviceTable → Bool
device_holds c device (Adapter t) = list_all (row_holds c device t) t.rows
device_holds c device (Scanner t) = list_all (slot_holds c device) (indexed_slots t)

abbrev pub devices_hold : Chronicle → ℕ → List DeviceTable → Bool
devices_hold c device [] = true
devices_hold c device (t ∷ rest) = device_holds c device t && devices_hold c (device + 1) rest

-- ---- who has a producer

abbrev pub has_producer : ℕ → Option DeviceTable → Bool
has_producer number None = false
has_producer number (Some (Adapter t)) = list_any (is_produced_by number) t.rows
has_producer number (Some (Scanner t)) = false

-- an adapter's connection is open that has the producer
abbrev pub has_connection : End → Chronicle → Bool
has_connection producer c = has_producer producer.number (slice_get c.story.world.tables producer.device)

-- ---- all of it

abbrev pub is_in_order : Chronicle → Bool
is_in_order c = rises c.accepted && (list_all (is_named c) c.accepted && devices_hold c 0 c.story.world.tables)
