-- A new life takes nothing that was sent before it began, but what a group gives that it joined.
use Rattle.std.proofs.Common.{◌≡◌, ◌⊎◌, inl, inr, ℕ, ◌++◌, [], find, replicate, slice_get, Option, Some, None, refl, sym, ◌∙◌, ap, subst}
use Rattle.std.specs.List.{Contains}
use Rattle.base_lemmas.specs.Lists.{found_passes}
use Rattle.adapter_table.specs.declared.table.AdapterTable.{AdapterTable}
use Rattle.scanner_table.specs.declared.table.ScannerTable.{ScannerTable}
use Rattle.scanner_table.specs.Slots.{IndexedSlot}
use Rattle.device_laws.specs.Lemmas.Books.{end_is}
use Rattle.device_laws.specs.Lemmas.RowIds.{all_contained}
use Rattle.device_laws.specs.Productions.{End, Production}
use Rattle.schedule_laws.specs.Chronicle.{Acceptance, Chronicle, Establishment, Opened, is_slot, opens_row}
use Rattle.schedule_laws.specs.MadeOnce.{AnIdOpensOneConnection}
use Rattle.schedule_laws.specs.Names.{IdsNameOpenings, IsEntry, IsMadeBy, IsOfGroup, IsOfItsEntry, IsOfItsOpening, IsOwn, ProducerHasEntry, SchedulesNameOpenings, SlotAcceptsByEntry}
use Rattle.schedule_laws.specs.Order.{IsAdapterAt, IsScannerAt}
use Rattle.schedule_laws.specs.Images.{ImageIs, SchedulesGatherImages}
use Rattle.schedule_laws.specs.Producers.{HasConnection, IdsNameOneProducer, LaterAcceptNothingOlder, LaterConnectionsAcceptNothingOlder, SchedulesNameOneProducer, WasOpenedLater}
use Rattle.schedule_laws.specs.Restarts.{IsNew, JoinedTheLiving, NewLivesTakeNothingOlder, WasTaken}
use Rattle.schedule_laws.specs.Lemmas.Found.{all_contains, found_holds}
use Rattle.schedule_laws.specs.Lemmas.OneProducer.{OpenedOnce, opened_once}
use Rattle.schedule_laws.proofs.Acted.{ActedIn, BothActed, HasActed, schedule_acted}
use Rattle.schedule_laws.proofs.LaterConnections.{Grown, grown, later_moment}

-- what is known of two moments
record Known (was now : Chronicle) : Type 0 where
  acted : ActedIn was
  before : IdsNameOpenings was
  after : IdsNameOpenings now
  older : LaterAcceptNothingOlder was now
  one_producer : IdsNameOneProducer now
  once : OpenedOnce now.story.world now.opened
  more : Grown was now

-- both devices of what was opened by the earlier moment had acted
had_acted : (was : Chronicle) (e : Opened) → ActedIn was → Contains was.opened e → BothActed was.story.reported e
had_acted was e acted there = all_contains (BothActed was.story.reported) was.opened e acted.opened there

not_new : (was : Chronicle) (life device : ℕ) → IsNew was life → HasActed was.story.reported device → device ≡ life → ⊥
not_new was life device new acted same = subst (HasActed was.story.reported) same acted new

-- ---- an adapter

adapter_takes : (was now : Chronicle) (life : ℕ) (t : AdapterTable) (a : Acceptance) → Known was now → IsNew was life → IsAdapterAt now life t → Contains now.accepted a → a.consumer.device ≡ life → Contains was.produced a.production → ⊥
adapter_takes was now life t a known new at there mine older =
    let names = known.after in
    let law = known.older in
    let of : IsOfItsOpening now.opened a = names.openings a t there (ap (slice_get now.story.world.tables) mine ∙ at) in
    let e = of.entry in
    let row : e.row ≡ a.consumer = end_is a.consumer e.row (found_passes (opens_row a.consumer) now.opened e of.found) in
    let among : Contains now.opened e = found_holds (Contains now.opened) (opens_row a.consumer) now.opened e (all_contained now.opened [] now.opened refl) of.found in
    law.rows e a (record { there = among; later = λ opened. let acted = had_acted was e known.acted opened in not_new was life e.row.device new acted.row (ap (λ (x : End). x.device) row ∙ mine) }) there (sym row) older

-- ---- a scanner

-- the connection has its T->O id of a group: an id of its own was new
of_group : (was now : Chronicle) (e : Opened) (p : Production) (t : AdapterTable) → Known was now → WasOpenedLater was now e → p.made.datagram.connection ≡ e.t_o_id.0 → Contains was.produced p → HasConnection was p.producer → IsOfGroup t e ⊎ IsOwn now.story.world e → IsOfGroup t e
of_group was now e p t known later id older living (inl group) = group
of_group was now e p t known later id older living (inr own) =
    let names = known.before in
    let more = known.more in
    let made : IsMadeBy was.opened p.producer p.made =
    all_contains (ProducerHasEntry was.story.world was.opened) was.produced p names.producers older (record { table = living.table; is = living.is }) in
    let by = made.by in
    let same : e ≡ by.entry = known.once e by.entry later.there (more.opened by.entry by.there) own (sym id ∙ sym by.t_o_is) in
    absurd (later.later (subst (Contains was.opened) (sym same) by.there))

scanner_takes : (was now : Chronicle) (life : ℕ) (t : ScannerTable) (a : Acceptance) → Known was now → IsNew was life → IsScannerAt now life t → Contains now.accepted a → a.consumer.device ≡ life → Contains was.produced a.production → JoinedTheLiving was now a
scanner_takes was now life t a known new at there mine older =
    let names = known.after in
    let law = known.older in
    let one = known.one_producer in
    let more = known.more in
    let p = a.production in
    let of : IsOfItsEntry now.opened a =
    all_contains (SlotAcceptsByEntry now.story.world now.opened) now.accepted a names.accepted there (record { table = t; is = ap (slice_get now.story.world.tables) mine ∙ at }) in
    let e = of.entry in
    let later : WasOpenedLater was now e = record {
      there = of.there;
      later = λ opened. let acted = had_acted was e known.acted opened in not_new was life e.slot.device new acted.slot (ap (λ (x : End). x.device) of.slot_is ∙ mine);
    } in
    let living = law.slots e a later there (sym of.slot_is) of.id older in
    let is : IsEntry now.story.world now.opened e = all_contains (IsEntry now.story.world now.opened) now.opened e names.entries of.there in
    let made : IsMadeBy now.opened p.producer p.made =
    all_contains (ProducerHasEntry now.story.world now.opened) now.produced p names.producers (more.produced p older) (record { table = is.table; is = ap (slice_get now.story.world.tables) of.maker ∙ is.there }) in
    let by = made.by in
    record {
      entry = e;
      later = later;
      slot_is = of.slot_is;
      id_is = of.id;
      table = is.table;
      there = is.there;
      group = of_group was now e p is.table known later of.id older living is.t_o;
      producer_is = sym by.producer_is ∙ one.connections by.entry e by.there of.there (by.t_o_is ∙ of.id);
      living = living;
    }

-- ---- its images

image_takes : (was now : Chronicle) (life : ℕ) (t : ScannerTable) (place : IndexedSlot) (found : Option Establishment) → Known was now → IsNew was life → IsScannerAt now life t → ImageIs now life place found → (place.slot.image ≡ replicate place.config.in_len 0) ⊎ WasTaken was now life place.slot.image
image_takes was now life t place None known new at zeros = inl zeros
image_takes was now life t place (Some e) known new at (inl zeros) = inl zeros
image_takes was now life t place (Some e) known new at (inr gathered) =
    let mine : gathered.acceptance.consumer.device ≡ life = ap (λ (x : End). x.device) gathered.consumer_is in
    inr (record {
      acceptance = gathered.acceptance;
      there = gathered.there;
      life_is = mine;
      data_is = gathered.data_is;
      older = λ older. scanner_takes was now life t gathered.acceptance known new at gathered.there mine older;
    })

-- ---- the law

pub new_lives : SchedulesNameOpenings → SchedulesNameOneProducer → LaterConnectionsAcceptNothingOlder → AnIdOpensOneConnection → SchedulesGatherImages → NewLivesTakeNothingOlder
new_lives names producers later once gather configs was now life moments new =
    let whole = later_moment configs was now moments in
    let known : Known was now = record {
      acted = schedule_acted configs moments.early was moments.first;
      before = names configs moments.early was moments.first;
      after = names configs (moments.early ++ moments.late) now whole;
      older = later configs was now moments;
      one_producer = producers configs (moments.early ++ moments.late) now whole;
      once = opened_once now (once configs (moments.early ++ moments.late) now whole);
      more = grown was now moments.late moments.rest;
    } in
    record {
      adapter = λ t a. adapter_takes was now life t a known new;
      scanner = λ t a. scanner_takes was now life t a known new;
      images = λ t place at there.
          image_takes was now life t place (find (is_slot life place.number) now.established) known new at
          (gather configs (moments.early ++ moments.late) now whole life t place at there);
    }
