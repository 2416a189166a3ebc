-- What the laws of images and of written outputs say, as tests of one chronicle.
use Rattle.std.specs.Prelude.{ℕ, ◌==◌, ◌&&◌, ◌||◌, not, Bool, true, List, find, slice_get, unwrap_or, replicate, Option, Some, None}
use Rattle.std.specs.List.{list_all, list_any}
use Rattle.std.specs.Str.{bytes_eq}
use Rattle.cip_types.specs.declared.names.ConnId.{ConnId}
use Rattle.scanner_table.specs.declared.table.ScannerTable.{ScannerTable}
use Rattle.scanner_table.specs.Slots.{IndexedSlot, indexed_slots}
use Rattle.device_laws.specs.Scratch.{last_output}
use Rattle.cip_tables.specs.declared.table.Config.{Config}
use Rattle.cip_tables.specs.declared.table.DeviceTable.{DeviceTable}
use Rattle.cip_tables.specs.declared.table.DeviceTable.TheVariants.{Adapter, Scanner}
use Rattle.segment_world.specs.Configs.{opening_world}
use Rattle.segment_world.specs.Story.{events_of}
use Rattle.device_laws.specs.Productions.{End, end_at, is_end, Production}
use Rattle.schedule_laws.specs.Chronicle.{Acceptance, Chronicle, Establishment, Opened, is_slot}
use Rattle.samples.specs.Oracle.{is_zeros}
use Rattle.samples.specs.NameTests.{device_of, is_scanner}

-- ---- what slots accept

-- the connection of the slot's opening has the production's id and its producer
abbrev pub is_producer_of : Acceptance → Opened → Bool
is_producer_of a e = is_end e.slot a.consumer && (a.production.made.datagram.connection == e.t_o_id.0 && is_end a.production.producer e.producer)

abbrev pub accepts_of_producer : Chronicle → Acceptance → Bool
accepts_of_producer c a = not (is_scanner (device_of c a.consumer.device)) || list_any (is_producer_of a) c.opened

abbrev pub scanners_accept : Chronicle → Bool
scanners_accept c = list_all (accepts_of_producer c) c.accepted

-- ---- what images hold

abbrev pub gathered_by : End → List ℕ → Acceptance → Bool
gathered_by consumer bytes a = is_end a.consumer consumer && bytes_eq bytes a.production.made.datagram.payload

abbrev pub image_gathered : Chronicle → ℕ → IndexedSlot → Option Establishment → Bool
image_gathered c device place None = is_zeros place
image_gathered c device place (Some e) = is_zeros place || list_any (gathered_by (end_at device e.request) place.slot.image) c.accepted

abbrev pub slot_gathers : Chronicle → ℕ → IndexedSlot → Bool
slot_gathers c device place = image_gathered c device place (find (is_slot device place.number) c.established)

abbrev pub table_gathers : Chronicle → ℕ → Option DeviceTable → Bool
table_gathers c device None = true
table_gathers c device (Some (Adapter t)) = true
table_gathers c device (Some (Scanner t)) = list_all (slot_gathers c device) (indexed_slots t)

-- each image of the scanner at this place is zeros, or data that the slot's last opening accepted
abbrev pub images_gathered : ℕ → Chronicle → Bool
images_gathered device c = table_gathers c device (device_of c device)

abbrev pub names_producer : ConnId → Production → Opened → Bool
names_producer id p e = e.t_o_id.0 == id.0 && is_end p.producer e.producer

abbrev pub made_under : Chronicle → ConnId → List ℕ → Production → Bool
made_under c id bytes p = list_any (names_producer id p) c.opened && bytes_eq bytes p.made.value

abbrev pub image_produced : Chronicle → IndexedSlot → Option Establishment → Bool
image_produced c place None = is_zeros place
image_produced c place (Some e) = is_zeros place || list_any (made_under c e.t_o_id place.slot.image) c.produced

abbrev pub slot_shows : Chronicle → ℕ → IndexedSlot → Bool
slot_shows c device place = image_produced c place (find (is_slot device place.number) c.established)

abbrev pub table_shows : Chronicle → ℕ → Option DeviceTable → Bool
table_shows c device None = true
table_shows c device (Some (Adapter t)) = true
table_shows c device (Some (Scanner t)) = list_all (slot_shows c device) (indexed_slots t)

-- each image of the scanner at this place is zeros, or what the producer's input held at a production
abbrev pub images_produced : ℕ → Chronicle → Bool
images_produced device c = table_shows c device (device_of c device)

-- ---- what slots produce

abbrev pub output_written : Chronicle → ℕ → ScannerTable → IndexedSlot → Bool
output_written c device first place =
    bytes_eq place.slot.output (unwrap_or (last_output place.number first (events_of device c.story.reported)) (replicate place.config.out_len 0))

abbrev pub now_written : Chronicle → ℕ → ScannerTable → Option DeviceTable → Bool
now_written c device first None = true
now_written c device first (Some (Adapter t)) = true
now_written c device first (Some (Scanner t)) = list_all (output_written c device first) (indexed_slots t)

abbrev pub table_written : Chronicle → ℕ → Option DeviceTable → Bool
table_written c device None = true
table_written c device (Some (Adapter t)) = true
table_written c device (Some (Scanner first)) = now_written c device first (device_of c device)

-- each output of the scanner at this place is what was last written there
abbrev pub outputs_written : List Config → ℕ → Chronicle → Bool
outputs_written configs device c = table_written c device (slice_get (opening_world configs).tables device)
