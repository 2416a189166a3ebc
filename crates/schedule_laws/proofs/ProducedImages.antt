-- Over every schedule the image of a slot was produced by the producer that the slot's T->O id names.
use Rattle.std.proofs.Common.{inl, inr, ℕ, ◌<◌, ◌^◌, find, Option, Some, None, sym, ◌∙◌, subst}
use Rattle.std.specs.List.{Contains}
use Rattle.scanner_table.specs.declared.table.ScannerTable.{ScannerTable}
use Rattle.scanner_table.specs.Slots.{IndexedSlot}
use Rattle.scanner_table.specs.Lemmas.SlotLookups.{slot_is}
use Rattle.device_laws.specs.Lemmas.Texts.{same_again}
use Rattle.device_laws.specs.SlotIds.{SlotsHaveTheIdsOfTheirSuccess}
use Rattle.schedule_laws.specs.Ids.{AreDrawnApart, SchedulesKeepIdsDrawn, OpeningWorldsHaveIdsDrawn}
use Rattle.device_laws.specs.Made.{AnswersSendWhatIsMade}
use Rattle.device_laws.specs.Productions.{End}
use Rattle.schedule_laws.specs.Chronicle.{Acceptance, Chronicle, Establishment, is_slot}
use Rattle.schedule_laws.specs.MadeOnce.{AnIdOpensOneConnection}
use Rattle.schedule_laws.specs.Names.{IsScannerIn, IsEntry, IdsNameOpenings, IsOfItsEntry, SlotAcceptsByEntry, WasProduced as IsProduced, SchedulesNameOpenings}
use Rattle.schedule_laws.specs.Order.{AcceptedIndexesRise, IsScannerAt}
use Rattle.schedule_laws.specs.Lemmas.AcceptedOpenings.{t_o_fits}
use Rattle.schedule_laws.specs.Lemmas.Found.{all_contains}
use Rattle.schedule_laws.specs.Lemmas.OneProducer.{OpenedOnce, opened_once, IsOfProducer, slot_producer}
use Rattle.schedule_laws.specs.Images.{ScannersAccept, ImageWasProduced, GatheredInOrder}
use Rattle.schedule_laws.proofs.GatheredImages.{schedule_gathers}
use Rattle.schedule_laws.proofs.ImageActs.{ImageOf}
use Rattle.schedule_laws.proofs.Outputs.{contains_by}

-- what a slot accepted is of the producer of its entry
accepted_of : (c : Chronicle) (a : Acceptance) → AreDrawnApart c.story.world → OpenedOnce c.story.world c.opened → IdsNameOpenings c → Contains c.accepted a → IsScannerIn c.story.world a.consumer.device → IsOfProducer c.opened a
accepted_of c a drawn once named there scanner =
    let w = c.story.world in
    let of : IsOfItsEntry c.opened a = all_contains (SlotAcceptsByEntry c.story.world c.opened) c.accepted a named.accepted there scanner in
    let produced : IsProduced c.produced a = all_contains (IsProduced c.produced) c.accepted a named.were_produced there in
    slot_producer c.story.world c.opened c.produced a drawn once named.entries named.producers produced of

pub slots_accept : (c : Chronicle) → AreDrawnApart c.story.world → OpenedOnce c.story.world c.opened → IdsNameOpenings c → ScannersAccept c
slots_accept c drawn once named a t there at =
    let is = accepted_of c a drawn once named there (record { table = t; is = at }) in
    let of = is.of in
    record { entry = of.entry; there = of.there; slot_is = of.slot_is; id_is = of.id; producer_is = is.producer }

image_produced : (c : Chronicle) (device : ℕ) (t : ScannerTable) (place : IndexedSlot) (found : Option Establishment) → AreDrawnApart c.story.world → OpenedOnce c.story.world c.opened → IdsNameOpenings c → IsScannerAt c device t → ImageOf c.accepted device place.config place.slot.image found → ImageWasProduced c place found
image_produced c device t place None drawn once named at zeros = zeros
image_produced c device t place (Some e) drawn once named at (inl zeros) = inl zeros
image_produced c device t place (Some e) drawn once named at (inr g) =
    let a = g.acceptance in
    let there : Contains c.accepted g.acceptance = contains_by c.accepted g.acceptance g.there in
    let scanner : IsScannerIn c.story.world g.acceptance.consumer.device = subst (λ (x : End). IsScannerIn c.story.world x.device) (sym g.consumer_is) (record { table = t; is = at }) in
    let is = accepted_of c g.acceptance drawn once named there scanner in
    let of = is.of in
    let entry : IsEntry c.story.world c.opened of.entry = all_contains (IsEntry c.story.world c.opened) c.opened of.entry named.entries of.there in
    let fits : a.production.made.datagram.connection < 2 ^ 32 = subst (λ (n : ℕ). n < 2 ^ 32) (sym of.id) (t_o_fits c.story.world c.opened of.entry drawn entry) in
    inr (record {
      production = a.production;
      there = all_contains (IsProduced c.produced) c.accepted a named.were_produced there;
      by = record {
        entry = of.entry;
        there = of.there;
        id_is = sym of.id ∙ sym (same_again a.production.made.datagram.connection fits) ∙ g.id_is;
        producer_is = is.producer;
      };
      value = g.image_is ∙ is.value;
    })

-- what is known of schedules
pub record ImageLaws : Type 0 where
  pub sends : AnswersSendWhatIsMade
  pub keep : SchedulesKeepIdsDrawn
  pub opens : OpeningWorldsHaveIdsDrawn
  pub ids : SlotsHaveTheIdsOfTheirSuccess
  pub rise : AcceptedIndexesRise
  pub names : SchedulesNameOpenings
  pub once : AnIdOpensOneConnection

pub gathered_in_order : ImageLaws → GatheredInOrder
gathered_in_order laws configs acts c is near =
    let gathers = schedule_gathers laws.sends laws.keep laws.opens laws.ids configs acts c is in
    let produced = gathers.produced in
    let named = laws.names configs acts c is in
    let once = opened_once c (laws.once configs acts c is) in
    let drawn : AreDrawnApart c.story.world = record { ids = produced.drawn; apart = is.apart } in
    record {
      one_producer = slots_accept c drawn once named;
      rising = laws.rise configs acts c is near;
      images = λ device t place at there.
          image_produced c device t place (find (is_slot device place.number) c.established) drawn once named at (gathers.images device t at place (slot_is t place.number place there).stands).image;
    }
