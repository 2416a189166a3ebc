-- A T->O id names one producer: two entries with one id have one.
use Rattle.std.proofs.Common.{◌≡◌, ◌⊎◌, inl, inr, ℕ, ◌+◌, List, slice_get, Some, sym, ◌∙◌, ap, arith}
use Rattle.std.specs.List.{AllByRecursion, Contains}
use Rattle.cip_types.specs.declared.names.ConnId.{ConnId}
use Rattle.adapter_table.specs.declared.table.AdapterTable.{AdapterTable}
use Rattle.cip_tables.specs.declared.table.DeviceTable.TheVariants.{Adapter, Scanner}
use Rattle.segment_world.specs.World.{World}
use Rattle.schedule_laws.specs.Ids.{AreDrawnApart}
use Rattle.schedule_laws.specs.Lives.{HasNumber}
use Rattle.device_laws.specs.Productions.{end_at, Production}
use Rattle.schedule_laws.specs.Chronicle.{Opened, Acceptance, Chronicle}
use Rattle.schedule_laws.specs.MadeOnce.{OneConnectionHasIt}
use Rattle.schedule_laws.specs.Names.{IsAdapterIn, IsOfGroup, IsOwn, IsEntry, IsMadeBy, ProducerHasEntry, IsOfItsEntry}
use Rattle.schedule_laws.specs.Lemmas.Numbers.{IsOne, one_id, never_both}
use Rattle.schedule_laws.specs.Lemmas.Found.{all_contains}

-- a T->O id that a scanner drew opened one connection
abbrev pub OpenedOnce : World → List Opened → Type 0
OpenedOnce w opened = (e f : Opened) → Contains opened e → Contains opened f → IsOwn w e → e.t_o_id.0 ≡ f.t_o_id.0 → e ≡ f

-- the number of a T->O id that a scanner drew
pub own_number : (w : World) (e : Opened) (own : IsOwn w e) → HasNumber (Scanner own.scanner.table) own.id.number
own_number w e own =
    let id = own.id in
    record { begins = id.begins; ends = id.ends }

pub opened_once : (c : Chronicle) → OneConnectionHasIt c → OpenedOnce c.story.world c.opened
opened_once c once e f there other own same =
    let id = own.id in
    let scanner = own.scanner in
    once e f there other (record { device = e.slot.device; table = scanner.table; there = scanner.is; number = id.number; has = own_number c.story.world e own; is = id.is }) same

by_kind : (w : World) (opened : List Opened) (e f : Opened) (t u : AdapterTable) → AreDrawnApart w → OpenedOnce w opened → Contains opened e → Contains opened f → slice_get w.tables e.row.device ≡ Some (Adapter t) → slice_get w.tables f.row.device ≡ Some (Adapter u) → e.producer.device ≡ e.row.device → f.producer.device ≡ f.row.device → e.t_o_id.0 ≡ f.t_o_id.0 → IsOfGroup t e ⊎ IsOwn w e → IsOfGroup u f ⊎ IsOwn w f → e.producer ≡ f.producer
by_kind w opened e f t u drawn once there other at_e at_f one two same (inl a) (inl b) =
    let is : IsOne e.row.device f.row.device (e.producer.number + 1) (f.producer.number + 1) =
    one_id w e.row.device f.row.device (Adapter t) (Adapter u) (e.producer.number + 1) (f.producer.number + 1) drawn.ids drawn.apart at_e at_f
    a.has b.has (sym (ap (λ (id : ConnId). id.0) a.id) ∙ same ∙ ap (λ (id : ConnId). id.0) b.id) in
    let next = is.number in
    let number : e.producer.number ≡ f.producer.number = omega (arith, next) in
    ap (λ (d : ℕ). end_at d e.producer.number) (one ∙ is.device ∙ sym two) ∙ ap (end_at f.producer.device) number
by_kind w opened e f t u drawn once there other at_e at_f one two same (inl a) (inr b) =
    let id = b.id in
    let s = b.scanner in
    absurd (never_both w e.row.device f.slot.device t s.table (e.producer.number + 1) id.number drawn.apart at_e s.is a.has (own_number w f b) (sym (ap (λ (x : ConnId). x.0) a.id) ∙ same ∙ id.is))
by_kind w opened e f t u drawn once there other at_e at_f one two same (inr a) kind = ap (λ (x : Opened). x.producer) (once e f there other a same)

-- two entries with one T->O id have one producer
pub one_producer : (w : World) (opened : List Opened) (e f : Opened) → AreDrawnApart w → OpenedOnce w opened → Contains opened e → Contains opened f → IsEntry w opened e → IsEntry w opened f → e.t_o_id.0 ≡ f.t_o_id.0 → e.producer ≡ f.producer
one_producer w opened e f drawn once there other one two same =
    by_kind w opened e f one.table two.table drawn once there other one.there two.there one.maker two.maker same one.t_o two.t_o

-- two productions of adapters with one id are of one producer
pub adapters_made : (w : World) (opened : List Opened) (produced : List Production) (p q : Production) → AreDrawnApart w → OpenedOnce w opened → AllByRecursion (IsEntry w opened) opened → AllByRecursion (ProducerHasEntry w opened) produced → Contains produced p → Contains produced q → IsAdapterIn w p.producer.device → IsAdapterIn w q.producer.device → p.made.datagram.connection ≡ q.made.datagram.connection → p.producer ≡ q.producer
adapters_made w opened produced p q drawn once entries producers one two maker other same =
    let a : IsMadeBy opened p.producer p.made = all_contains (ProducerHasEntry w opened) produced p producers one maker in
    let b : IsMadeBy opened q.producer q.made = all_contains (ProducerHasEntry w opened) produced q producers two other in
    let x = a.by in
    let y = b.by in
    sym x.producer_is
    ∙ one_producer w opened x.entry y.entry drawn once x.there y.there (all_contains (IsEntry w opened) opened x.entry entries x.there) (all_contains (IsEntry w opened) opened y.entry entries y.there) (x.t_o_is ∙ same ∙ sym y.t_o_is)
    ∙ y.producer_is

-- what a slot accepted is of the producer of its entry, and has the data that the input held
pub record IsOfProducer (opened : List Opened) (a : Acceptance) : Type 0 where
  pub of : IsOfItsEntry opened a
  pub producer : a.production.producer ≡ of.entry.producer
  pub value : a.production.made.datagram.payload ≡ a.production.made.value

pub slot_producer : (w : World) (opened : List Opened) (produced : List Production) (a : Acceptance) → AreDrawnApart w → OpenedOnce w opened → AllByRecursion (IsEntry w opened) opened → AllByRecursion (ProducerHasEntry w opened) produced → Contains produced a.production → IsOfItsEntry opened a → IsOfProducer opened a
slot_producer w opened produced a drawn once entries producers there of =
    let e = of.entry in
    let entry : IsEntry w opened e = all_contains (IsEntry w opened) opened e entries of.there in
    let made : IsMadeBy opened a.production.producer a.production.made =
    all_contains (ProducerHasEntry w opened) produced a.production producers there (record { table = entry.table; is = ap (slice_get w.tables) of.maker ∙ entry.there }) in
    let by = made.by in
    let other : IsEntry w opened by.entry = all_contains (IsEntry w opened) opened by.entry entries by.there in
    record {
      of = of;
      producer = sym by.producer_is ∙ one_producer w opened by.entry e drawn once by.there of.there other entry (by.t_o_is ∙ of.id);
      value = made.value;
    }
