-- What the laws of connection ids say, as tests of one chronicle: which opening an id names, and which producer.
use Rattle.std.specs.Prelude.{◌∷◌, [], if◌then◌else◌, ◌-◌, ℕ, ◌+◌, ◌==◌, ◌&&◌, ◌||◌, not, nat_le, nat_lt, Bool, true, false, List, find, slice_get, Option, Some, None}
use Rattle.std.specs.List.{list_all, list_any}
use Rattle.std.specs.Str.{bytes_eq}
use Rattle.cip_types.specs.declared.ids.IdBlock.{IdBlock}
use Rattle.cip_types.specs.Ids.{end_number, id_at}
use Rattle.cip_types.specs.IdLaws.{has_id}
use Rattle.adapter_table.specs.Connections.{Row}
use Rattle.adapter_table.specs.declared.table.AdapterTable.{AdapterTable}
use Rattle.adapter_table.specs.Productions.{producer_of}
use Rattle.adapter_table.specs.Rows.{is_established}
use Rattle.scanner_table.specs.declared.slot.SlotState.{SlotState}
use Rattle.scanner_table.specs.declared.slot.SlotState.TheVariants.{Idle, Opening, Established, TimedOut, Closing}
use Rattle.scanner_table.specs.declared.table.ScannerTable.{ScannerTable}
use Rattle.scanner_table.specs.Slots.{IndexedSlot, indexed_slots}
use Rattle.cip_tables.specs.declared.table.DeviceTable.{DeviceTable}
use Rattle.cip_tables.specs.declared.table.DeviceTable.TheVariants.{Adapter, Scanner}
use Rattle.segment_world.specs.World.{node_at}
use Rattle.device_laws.specs.Productions.{End, end_at, is_end, Production}
use Rattle.schedule_laws.specs.Chronicle.{Acceptance, Chronicle, Opened, opens_row}
use Rattle.schedule_laws.specs.MadeOnce.{uses}

abbrev pub is_scanner : Option DeviceTable → Bool
is_scanner None = false
is_scanner (Some (Adapter t)) = false
is_scanner (Some (Scanner t)) = true

abbrev pub is_adapter : Option DeviceTable → Bool
is_adapter None = false
is_adapter (Some (Adapter t)) = true
is_adapter (Some (Scanner t)) = false

-- the device of this place
abbrev pub device_of : Chronicle → ℕ → Option DeviceTable
device_of c device = slice_get c.story.world.tables device

-- ---- what was accepted

-- the opening that opened the connection made the production, with the connection's O->T id
abbrev pub is_of_its_slot : Acceptance → Option Opened → Bool
is_of_its_slot a None = false
is_of_its_slot a (Some e) = is_end a.production.producer e.slot && a.production.made.datagram.connection == e.o_t_id.0

abbrev pub is_of_one_opening : Chronicle → Acceptance → Bool
is_of_one_opening c a = not (is_adapter (device_of c a.consumer.device)) || is_of_its_slot a (find (opens_row a.consumer) c.opened)

abbrev pub accept_one_opening : Chronicle → Bool
accept_one_opening c = list_all (is_of_one_opening c) c.accepted

-- the entry is of the slot's opening, with the production's T->O id, at the adapter that made the production
abbrev pub is_entry_of : Acceptance → Opened → Bool
is_entry_of a e = is_end e.slot a.consumer && (a.production.producer.device == e.row.device && a.production.made.datagram.connection == e.t_o_id.0)

abbrev pub has_its_entry : Chronicle → Acceptance → Bool
has_its_entry c a = not (is_scanner (device_of c a.consumer.device)) || list_any (is_entry_of a) c.opened

abbrev pub slots_accept_by_entries : Chronicle → Bool
slots_accept_by_entries c = list_all (has_its_entry c) c.accepted

abbrev pub is_production : Production → Production → Bool
is_production p q =
    is_end p.producer q.producer && (p.index == q.index && (p.new_data == q.new_data && (bytes_eq p.made.value q.made.value && bytes_eq p.made.datagram.payload q.made.datagram.payload)))

abbrev pub is_produced : Chronicle → Acceptance → Bool
is_produced c a = list_any (is_production a.production) c.produced

abbrev pub were_produced : Chronicle → Bool
were_produced c = list_all (is_produced c) c.accepted

-- ---- what was produced

abbrev pub is_opened_for : Production → Opened → Bool
is_opened_for p e = is_end e.slot p.producer && e.o_t_id.0 == p.made.datagram.connection

abbrev pub is_of_its_connection : Chronicle → Production → Bool
is_of_its_connection c p = not (is_scanner (device_of c p.producer.device)) || list_any (is_opened_for p) c.opened

abbrev pub scanners_produce_by_entries : Chronicle → Bool
scanners_produce_by_entries c = list_all (is_of_its_connection c) c.produced

abbrev pub is_opened_by : Production → Opened → Bool
is_opened_by p e = is_end e.producer p.producer && e.t_o_id.0 == p.made.datagram.connection

abbrev pub is_of_its_producer : Chronicle → Production → Bool
is_of_its_producer c p =
    not (is_adapter (device_of c p.producer.device)) || (list_any (is_opened_by p) c.opened && bytes_eq p.made.datagram.payload p.made.value)

abbrev pub adapters_produce_by_entries : Chronicle → Bool
adapters_produce_by_entries c = list_all (is_of_its_producer c) c.produced

-- ---- connections and slots

-- a connection of the adapter has the entry's ids, peer and producer
abbrev pub row_is_of : Chronicle → ℕ → Row → Option Opened → Bool
row_is_of c device row None = false
row_is_of c device row (Some e) =
    (e.o_t_id.0 == row.o_t_id.0 && e.t_o_id.0 == row.t_o_id.0) && (row.peer.0 == (node_at c.story.world e.slot.device).0 && (not (is_established row) || is_end e.producer (end_at device (producer_of row.state))))

abbrev pub row_has_entry : Chronicle → ℕ → Row → Bool
row_has_entry c device row = row_is_of c device row (find (opens_row (end_at device row.opening)) c.opened)

-- the entry is of the slot's opening, at the slot's target, with the ids of its connection
abbrev pub is_opened_at : Chronicle → IndexedSlot → End → ℕ → ℕ → Opened → Bool
is_opened_at c place slot o_t t_o e =
    place.config.target.0 == (node_at c.story.world e.row.device).0 && (is_end e.slot slot && (e.o_t_id.0 == o_t && e.t_o_id.0 == t_o))

abbrev pub state_has_entry : Chronicle → ℕ → IndexedSlot → SlotState → Bool
state_has_entry c device place Idle = true
state_has_entry c device place (Opening o) = true
state_has_entry c device place (Established s) = list_any (is_opened_at c place (end_at device s.opening) s.link.o_t_id.0 s.link.t_o_id.0) c.opened
state_has_entry c device place (TimedOut link) = true
state_has_entry c device place (Closing s) = true

abbrev pub slot_has_entry : Chronicle → ℕ → IndexedSlot → Bool
slot_has_entry c device place = state_has_entry c device place place.slot.state

abbrev pub table_has_entries : Chronicle → ℕ → Option DeviceTable → Bool
table_has_entries c device None = true
table_has_entries c device (Some (Adapter t)) = list_all (row_has_entry c device) t.rows
table_has_entries c device (Some (Scanner t)) = list_all (slot_has_entry c device) (indexed_slots t)

abbrev pub has_entries : ℕ → Chronicle → Bool
has_entries device c = table_has_entries c device (device_of c device)

-- ---- entries

abbrev pub same_entry : Opened → Opened → Bool
same_entry e f = is_end e.row f.row && (is_end e.slot f.slot && (is_end e.producer f.producer && (e.o_t_id.0 == f.o_t_id.0 && e.t_o_id.0 == f.t_o_id.0)))

abbrev pub is_first : Opened → Option Opened → Bool
is_first e None = false
is_first e (Some f) = same_entry e f

-- the number of which this is the id, if a block has it
abbrev pub number_of : ℕ → List IdBlock → ℕ
number_of id [] = 0
number_of id (block ∷ blocks) = if has_id id block then id - block.first + 1 else block.count + number_of id blocks

-- the scanner's blocks have an id of this number
abbrev pub is_numbered : ScannerTable → ℕ → Bool
is_numbered t number = nat_le 1 number && nat_lt number (end_number t.ids)

-- the id is of the scanner's blocks
abbrev pub drew : ℕ → Option DeviceTable → Bool
drew id None = false
drew id (Some (Adapter t)) = false
drew id (Some (Scanner t)) = is_numbered t (number_of id t.ids) && (id_at t.ids (number_of id t.ids)).0 == id

-- the T->O id is the second of a group of this adapter, or the scanner's, whose connection has a producer of its own
abbrev pub has_t_o : Chronicle → AdapterTable → Opened → Bool
has_t_o c t e =
    (e.t_o_id.0 == (id_at t.ids (e.producer.number + 1)).0 && nat_lt (e.producer.number + 1) t.next_id)
    || (drew e.t_o_id.0 (device_of c e.slot.device) && is_end e.producer e.row)

abbrev pub is_entry_at : Chronicle → Opened → Option DeviceTable → Bool
is_entry_at c e None = false
is_entry_at c e (Some (Adapter t)) =
    (nat_lt e.row.number t.next_id && e.o_t_id.0 == (id_at t.ids e.row.number).0)
    && (is_scanner (device_of c e.slot.device) && (is_first e (find (opens_row e.row) c.opened) && (e.producer.device == e.row.device && has_t_o c t e)))
is_entry_at c e (Some (Scanner t)) = false

abbrev pub is_entry : Chronicle → Opened → Bool
is_entry c e = is_entry_at c e (device_of c e.row.device)

abbrev pub are_entries : Chronicle → Bool
are_entries c = list_all (is_entry c) c.opened

-- ---- one producer has an id

abbrev pub made_by_one : Production → Production → Bool
made_by_one p q = not (p.made.datagram.connection == q.made.datagram.connection) || is_end p.producer q.producer

abbrev pub made_by_one_of : List Production → Production → Bool
made_by_one_of produced p = list_all (made_by_one p) produced

-- two productions with one connection id are of one producer
abbrev pub one_makes : Chronicle → Bool
one_makes c = list_all (made_by_one_of c.produced) c.produced

-- so it is of those of scanners
abbrev pub one_scanner_made : Chronicle → Production → Production → Bool
one_scanner_made c p q = not (is_scanner (device_of c p.producer.device)) || (not (is_scanner (device_of c q.producer.device)) || made_by_one p q)

abbrev pub one_scanner_made_of : Chronicle → Production → Bool
one_scanner_made_of c p = list_all (one_scanner_made c p) c.produced

abbrev pub one_slot_makes : Chronicle → Bool
one_slot_makes c = list_all (one_scanner_made_of c) c.produced

abbrev pub sends_one : Opened → Opened → Bool
sends_one e f = not (e.t_o_id.0 == f.t_o_id.0) || is_end e.producer f.producer

abbrev pub sends_one_of : List Opened → Opened → Bool
sends_one_of opened e = list_all (sends_one e) opened

-- two connections with one T->O id have one producer
abbrev pub one_sends : Chronicle → Bool
one_sends c = list_all (sends_one_of c.opened) c.opened

-- ---- one connection has an id of a scanner

abbrev pub is_the_one : Option DeviceTable → Opened → Opened → Bool
is_the_one drawer e f = not (drew e.t_o_id.0 drawer) || (not (e.t_o_id.0 == f.t_o_id.0) || same_entry e f)

abbrev pub is_the_one_of : Option DeviceTable → List Opened → Opened → Bool
is_the_one_of drawer opened e = list_all (is_the_one drawer e) opened

-- two entries with one T->O id of the scanner at this place are one entry
abbrev pub one_has_it : ℕ → Chronicle → Bool
one_has_it device c = list_all (is_the_one_of (device_of c device) c.opened) c.opened

abbrev pub is_used_once : ℕ → Chronicle → Option DeviceTable → Bool
is_used_once number c None = true
is_used_once number c (Some (Adapter t)) = true
is_used_once number c (Some (Scanner t)) = not (is_numbered t number) || nat_le (uses (id_at t.ids number).0 c.story.world.streams c.opened) 1

-- the id of this number of the scanner at this place is used once at most
abbrev pub used_once : ℕ → ℕ → Chronicle → Bool
used_once device number c = is_used_once number c (device_of c device)

abbrev pub is_unused : ℕ → Chronicle → Option DeviceTable → Bool
is_unused number c None = true
is_unused number c (Some (Adapter t)) = true
is_unused number c (Some (Scanner t)) = not (is_numbered t number) || (not (nat_le t.next_id number) || uses (id_at t.ids number).0 c.story.world.streams c.opened == 0)

-- it is not used before the scanner draws it
abbrev pub unused_before : ℕ → ℕ → Chronicle → Bool
unused_before device number c = is_unused number c (device_of c device)
