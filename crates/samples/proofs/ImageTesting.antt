-- The laws of images and of written outputs pass their tests, at any chronicle.
use Rattle.std.proofs.Common.{◌≡◌, ℕ, ◌||◌, not, true, List, find, inl, inr, slice_get, unwrap_or, replicate, Option, Some, None, refl}
use Rattle.std.specs.List.{Contains, list_any}
use Rattle.scanner_table.specs.declared.table.ScannerTable.{ScannerTable}
use Rattle.scanner_table.specs.Slots.{IndexedSlot}
use Rattle.device_laws.specs.Scratch.{last_output}
use Rattle.cip_tables.specs.declared.table.Config.{Config}
use Rattle.cip_tables.specs.declared.table.DeviceTable.{DeviceTable}
use Rattle.cip_tables.specs.declared.table.DeviceTable.TheVariants.{Adapter, Scanner}
use Rattle.segment_world.specs.Configs.{opening_world}
use Rattle.segment_world.specs.Story.{events_of}
use Rattle.device_laws.specs.Productions.{end_at}
use Rattle.schedule_laws.specs.Chronicle.{Acceptance, Chronicle, Establishment, is_slot}
use Rattle.schedule_laws.specs.Order.{OutputsAreWritten}
use Rattle.schedule_laws.specs.Images.{ImageIs, ImagesWereGathered, ImagesWereProduced, ImageWasProduced, IsOfItsProducer, ScannersAccept}
use Rattle.samples.specs.Oracle.{is_zeros}
use Rattle.samples.specs.ImageTests.{accepts_of_producer, gathered_by, image_gathered, image_produced, images_gathered, images_produced, is_producer_of, made_under, names_producer, now_written, output_written, outputs_written, scanners_accept, slot_gathers, slot_shows, table_gathers, table_shows, table_written}
use Rattle.samples.specs.NameTests.{device_of, is_scanner}
use Rattle.samples.proofs.Passing.{both, bytes_are, end_passes, left_passes, members_pass, number_is, one_passes, right_passes, slots_pass}

-- ---- what slots accept

of_producer : (c : Chronicle) (a : Acceptance) → IsOfItsProducer c a → list_any (is_producer_of a) c.opened ≡ true
of_producer c a is =
    one_passes (is_producer_of a) c.opened is.entry is.there
    (both (end_passes is.entry.slot a.consumer is.slot_is)
    (both (number_is a.production.made.datagram.connection is.entry.t_o_id.0 is.id_is) (end_passes a.production.producer is.entry.producer is.producer_is)))

accept_step : (c : Chronicle) (a : Acceptance) (found : Option DeviceTable) → slice_get c.story.world.tables a.consumer.device ≡ found → ScannersAccept c → Contains c.accepted a → (not (is_scanner found) || list_any (is_producer_of a) c.opened) ≡ true
accept_step c a None at law there = refl
accept_step c a (Some (Adapter t)) at law there = refl
accept_step c a (Some (Scanner t)) at law there = of_producer c a (law a t there at)

pub scanners_accept_passes : (c : Chronicle) → ScannersAccept c → scanners_accept c ≡ true
scanners_accept_passes c law = members_pass (accepts_of_producer c) c.accepted (λ a there. accept_step c a (device_of c a.consumer.device) refl law there)

-- ---- what images hold

zeros_pass : (place : IndexedSlot) → place.slot.image ≡ replicate place.config.in_len 0 → is_zeros place ≡ true
zeros_pass place is = bytes_are place.slot.image (replicate place.config.in_len 0) is

gathered_step : (c : Chronicle) (device : ℕ) (place : IndexedSlot) (found : Option Establishment) → ImageIs c device place found → image_gathered c device place found ≡ true
gathered_step c device place None is = zeros_pass place is
gathered_step c device place (Some e) (inl zeros) = left_passes (is_zeros place) (list_any (gathered_by (end_at device e.request) place.slot.image) c.accepted) (zeros_pass place zeros)
gathered_step c device place (Some e) (inr was) =
    right_passes (is_zeros place) (list_any (gathered_by (end_at device e.request) place.slot.image) c.accepted)
    (one_passes (gathered_by (end_at device e.request) place.slot.image) c.accepted was.acceptance was.there
    (both (end_passes was.acceptance.consumer (end_at device e.request) was.consumer_is) (bytes_are place.slot.image was.acceptance.production.made.datagram.payload was.data_is)))

gather_step : (c : Chronicle) (device : ℕ) (found : Option DeviceTable) → slice_get c.story.world.tables device ≡ found → ImagesWereGathered c → table_gathers c device found ≡ true
gather_step c device None at law = refl
gather_step c device (Some (Adapter t)) at law = refl
gather_step c device (Some (Scanner t)) at law =
    slots_pass t (slot_gathers c device) (λ place there. gathered_step c device place (find (is_slot device place.number) c.established) (law device t place at there))

pub gathered_passes : (device : ℕ) (c : Chronicle) → ImagesWereGathered c → images_gathered device c ≡ true
gathered_passes device c law = gather_step c device (device_of c device) refl law

produced_step : (c : Chronicle) (place : IndexedSlot) (found : Option Establishment) → ImageWasProduced c place found → image_produced c place found ≡ true
produced_step c place None is = zeros_pass place is
produced_step c place (Some e) (inl zeros) = left_passes (is_zeros place) (list_any (made_under c e.t_o_id place.slot.image) c.produced) (zeros_pass place zeros)
produced_step c place (Some e) (inr was) =
    right_passes (is_zeros place) (list_any (made_under c e.t_o_id place.slot.image) c.produced)
    (one_passes (made_under c e.t_o_id place.slot.image) c.produced was.production was.there
    (both
    (one_passes (names_producer e.t_o_id was.production) c.opened was.by.entry was.by.there
    (both (number_is was.by.entry.t_o_id.0 e.t_o_id.0 was.by.id_is) (end_passes was.production.producer was.by.entry.producer was.by.producer_is)))
    (bytes_are place.slot.image was.production.made.value was.value)))

show_step : (c : Chronicle) (device : ℕ) (found : Option DeviceTable) → slice_get c.story.world.tables device ≡ found → ImagesWereProduced c → table_shows c device found ≡ true
show_step c device None at law = refl
show_step c device (Some (Adapter t)) at law = refl
show_step c device (Some (Scanner t)) at law =
    slots_pass t (slot_shows c device) (λ place there. produced_step c place (find (is_slot device place.number) c.established) (law device t place at there))

pub produced_passes : (device : ℕ) (c : Chronicle) → ImagesWereProduced c → images_produced device c ≡ true
produced_passes device c law = show_step c device (device_of c device) refl law

-- ---- what slots produce

now_step : (configs : List Config) (c : Chronicle) (device : ℕ) (first : ScannerTable) (found : Option DeviceTable) → slice_get (opening_world configs).tables device ≡ Some (Scanner first) → slice_get c.story.world.tables device ≡ found → OutputsAreWritten c configs → now_written c device first found ≡ true
now_step configs c device first None begins at law = refl
now_step configs c device first (Some (Adapter t)) begins at law = refl
now_step configs c device first (Some (Scanner t)) begins at law =
    slots_pass t (output_written c device first) (λ place there.
    bytes_are place.slot.output (unwrap_or (last_output place.number first (events_of device c.story.reported)) (replicate place.config.out_len 0)) (law device first t place begins at there))

written_step : (configs : List Config) (c : Chronicle) (device : ℕ) (found : Option DeviceTable) → slice_get (opening_world configs).tables device ≡ found → OutputsAreWritten c configs → table_written c device found ≡ true
written_step configs c device None begins law = refl
written_step configs c device (Some (Adapter t)) begins law = refl
written_step configs c device (Some (Scanner first)) begins law = now_step configs c device first (device_of c device) begins refl law

pub written_passes : (configs : List Config) (device : ℕ) (c : Chronicle) → OutputsAreWritten c configs → outputs_written configs device c ≡ true
written_passes configs device c law = written_step configs c device (slice_get (opening_world configs).tables device) refl law
