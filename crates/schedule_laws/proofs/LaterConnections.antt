-- A connection id names one producer for good, over every schedule, and a connection that was opened later accepts nothing older
-- but what a living group sent.
use Rattle.std.proofs.Common.{◌≡◌, ◌<◌, ◌⊎◌, inl, inr, ℕ, Bool, true, false, cond, List, [], ◌∷◌, ◌++◌, find, slice_get, Option, Some, None, Result, Ok, Err, IfOk, refl, sym, ◌∙◌, ap, subst, arith}
use Rattle.std.specs.List.{AllByRecursion, Contains}
use Rattle.std.proofs.lemmas.List.Elements.{Contains-append_left}
use Rattle.std.proofs.lemmas.Option.{same_Some}
use Rattle.adapter_table.specs.Connections.{Row}
use Rattle.adapter_table.specs.declared.table.AdapterTable.{AdapterTable}
use Rattle.adapter_table.specs.Productions.{is_produced_by}
use Rattle.cip_tables.specs.declared.table.Config.{Config}
use Rattle.cip_tables.specs.declared.table.DeviceTable.{DeviceTable}
use Rattle.cip_tables.specs.declared.table.DeviceTable.TheVariants.{Adapter, Scanner}
use Rattle.cip_tables.specs.Run.{table_of}
use Rattle.cip_tables.specs.Step.{step}
use Rattle.segment_world.specs.declared.act.Act.{Act}
use Rattle.segment_world.specs.declared.act.ActFault.{ActFault}
use Rattle.segment_world.specs.Configs.{opening_world}
use Rattle.segment_world.specs.World.{World, ReportedEvent, Happened, happens}
use Rattle.schedule_laws.specs.Ids.{AreDrawnApart, SchedulesKeepIdsDrawn, OpeningWorldsHaveIdsDrawn}
use Rattle.schedule_laws.specs.Lives.{AreApart}
use Rattle.device_laws.specs.Lemmas.RowIds.{all_contained}
use Rattle.device_laws.specs.Lemmas.Lists.{all_more}
use Rattle.device_laws.specs.Made.{AnswersSendWhatIsMade, makes}
use Rattle.device_laws.specs.Productions.{End, end_at, Production}
use Rattle.schedule_laws.specs.Chronicle.{Opened, opens_row, frame_opens, Chronicle, with_event_at, recorded, after_act, chronicles, blank}
use Rattle.schedule_laws.specs.MadeOnce.{AnIdOpensOneConnection}
use Rattle.schedule_laws.specs.Names.{IsScannerIn, IsAdapterIn, IsOfGroup, IsOwn, IsEntry, IsOpenedFor, IsMadeBy, ProductionHasEntry, ProducerHasEntry, IsOfItsOpening, IsOfItsEntry}
use Rattle.schedule_laws.specs.Order.{IsChronicle}
use Rattle.schedule_laws.specs.Producers.{AreMoments, SchedulesNameOneProducer, WasOpenedLater, HasConnection, RowsAcceptNothingOlder, SlotsAcceptOfTheLiving, LaterConnectionsAcceptNothingOlder}
use Rattle.schedule_laws.specs.Lemmas.AcceptedOpenings.{IsAccepted, entries_same}
use Rattle.schedule_laws.specs.Lemmas.Acts.{WhereApart, acts_after}
use Rattle.schedule_laws.specs.Lemmas.ApartIds.{Differ, DifferFromAll}
use Rattle.schedule_laws.proofs.EndedProducers.{IsOld, EndedIn, act_ended}
use Rattle.schedule_laws.specs.Lemmas.Entries.{IsDeviceIn, Waits}
use Rattle.schedule_laws.specs.Lemmas.Found.{all_contains}
use Rattle.schedule_laws.specs.Lemmas.NameActs.{NameLaws}
use Rattle.schedule_laws.specs.Lemmas.OneProducer.{OpenedOnce, opened_once, one_producer, adapters_made, slot_producer}
use Rattle.schedule_laws.specs.Lemmas.OpeningActs.{OpeningsIn, acts_keep, grows, schedule_openings}
use Rattle.schedule_laws.specs.Lemmas.ProducedActs.{ApartActsKeep, apart_keeps, chronicles_keep}
use Rattle.schedule_laws.specs.Lemmas.StreamActs.{act_acts}

-- ---- two moments

-- what was opened and what was produced stays
pub record Grown (was c : Chronicle) : Type 0 where
  pub opened : (e : Opened) → Contains was.opened e → Contains c.opened e
  pub produced : (p : Production) → Contains was.produced p → Contains c.produced p

grown_at : (was c : Chronicle) (act : Act) (reported : ReportedEvent) (new : World) (found : Option DeviceTable) → Grown was c → Grown was (with_event_at c act reported new found)
grown_at was c act reported new None is = record { opened = is.opened; produced = is.produced }
grown_at was c act reported new (Some t) is = record {
  opened = λ e there. Contains-append_left c.opened (frame_opens c.story.world reported.device t reported.event (table_of t (step t reported.event))) e (is.opened e there);
  produced = λ p there. grows reported.device (makes t reported.event) c.produced p (is.produced p there);
}

grown_by : (was c : Chronicle) (act : Act) (said : Happened) → Grown was c → IfOk (recorded c act said) (Grown was)
grown_by was c act (Err fault) is = tt
grown_by was c act (Ok (None, new)) is = record { opened = is.opened; produced = is.produced }
grown_by was c act (Ok (Some reported, new)) is = grown_at was c act reported new (slice_get c.story.world.tables reported.device) is

both_ok : (P Q R : Chronicle → Type 0) → ((c : Chronicle) → P c → Q c → R c) → (said : Result Chronicle ActFault) → IfOk said P → IfOk said Q → IfOk said R
both_ok P Q R both (Err fault) p q = tt
both_ok P Q R both (Ok c) p q = both c p q

pub grown : (was now : Chronicle) (late : List Act) → chronicles (Ok was) late ≡ Ok now → Grown was now
grown was now late is =
    subst (λ (r : Result Chronicle ActFault). IfOk r (Grown was)) is
    (chronicles_keep (Grown was) (λ c act holds. grown_by was c act (happens c.story.world act) holds) late (Ok was) (record { opened = λ e there. there; produced = λ p there. there }))

-- the ids are known, and a producer has ended
record EndedKnown (base : List Opened) (device n : ℕ) (c : Chronicle) : Type 0 where
  openings : OpeningsIn c
  ended : EndedIn base device n c

ended_keep : AnswersSendWhatIsMade → SchedulesKeepIdsDrawn → AnIdOpensOneConnection → NameLaws → (base : List Opened) (device n : ℕ) → ApartActsKeep (EndedKnown base device n)
ended_keep sends keep once laws base device n c act at =
    let in_order = at.openings in
    let openings = in_order.openings in
    let named = openings.named in
    let produced = in_order.produced in
    both_ok (WhereApart OpeningsIn) (EndedIn base device n) (WhereApart (EndedKnown base device n)) (λ d known ended apart. record { openings = known apart; ended = ended }) (after_act c act) (acts_keep sends keep once laws c act at.openings)
    (act_ended laws base device n c act (happens c.story.world act) (act_acts (Waits c.story.world c.opened) c.story.world act named.streams) produced.drawn at.ended)

ended_later : AnswersSendWhatIsMade → SchedulesKeepIdsDrawn → AnIdOpensOneConnection → NameLaws → (base : List Opened) (device n : ℕ) (was now : Chronicle) (late : List Act) → chronicles (Ok was) late ≡ Ok now → AreApart now.story.world.tables → OpeningsIn was → EndedIn base device n was → EndedIn base device n now
ended_later sends keep once laws base device n was now late is apart openings ended =
    let held : WhereApart (EndedKnown base device n) now = subst (λ (r : Result Chronicle ActFault). IfOk r (WhereApart (EndedKnown base device n))) is
    (chronicles_keep (WhereApart (EndedKnown base device n)) (apart_keeps laws.steps.blocks (EndedKnown base device n) (ended_keep sends keep once laws base device n)) late (Ok was)
    (λ before. record { openings = openings; ended = ended })) in
    let known = held apart in
    known.ended

-- ---- devices keep their kind

table_same : (w : World) (device : ℕ) (a b : DeviceTable) → slice_get w.tables device ≡ Some a → slice_get w.tables device ≡ Some b → a ≡ b
table_same w device a b one two = is a b (sym one ∙ two) where
  is : (a b : DeviceTable) → Some a ≡ Some b → a ≡ b
  is a b e = cc

never_both_kinds : (w : World) (device : ℕ) → IsScannerIn w device → IsAdapterIn w device → ⊥
never_both_kinds w device scanner adapter = absurd (let e = table_same w device (Scanner scanner.table) (Adapter adapter.table) scanner.is adapter.is in cc)

-- the maker of a production was of the kind that it is of
adapter_made : (was now : Chronicle) (p : Production) (t : DeviceTable) → OpeningsIn was → OpeningsIn now → Grown was now → Contains was.produced p → slice_get was.story.world.tables p.producer.device ≡ Some t → IsAdapterIn now.story.world p.producer.device → IsAdapterIn was.story.world p.producer.device
adapter_made was now p (Adapter t) before after more there at adapter = record { table = t; is = at }
adapter_made was now p (Scanner t) before after more there at adapter =
    let old = before.openings in
    let old_named = old.named in
    let new = after.openings in
    let new_named = new.named in
    let has : IsOpenedFor was.opened p.producer p.made.datagram.connection = all_contains (ProductionHasEntry was.story.world was.opened) was.produced p old_named.productions there (record { table = t; is = at }) in
    let entry : IsEntry now.story.world now.opened has.entry = all_contains (IsEntry now.story.world now.opened) now.opened has.entry new_named.entries (more.opened has.entry has.there) in
    let scanner : IsScannerIn now.story.world p.producer.device = subst (λ (x : End). IsScannerIn now.story.world x.device) has.slot_is entry.scanner in
    absurd (never_both_kinds now.story.world p.producer.device scanner adapter)

scanner_made : (was now : Chronicle) (p : Production) (t : DeviceTable) → OpeningsIn was → OpeningsIn now → Grown was now → Contains was.produced p → slice_get was.story.world.tables p.producer.device ≡ Some t → IsScannerIn now.story.world p.producer.device → IsScannerIn was.story.world p.producer.device
scanner_made was now p (Scanner t) before after more there at scanner = record { table = t; is = at }
scanner_made was now p (Adapter t) before after more there at scanner =
    let old = before.openings in
    let old_named = old.named in
    let new = after.openings in
    let new_named = new.named in
    let made : IsMadeBy was.opened p.producer p.made = all_contains (ProducerHasEntry was.story.world was.opened) was.produced p old_named.producers there (record { table = t; is = at }) in
    let has = made.by in
    let entry : IsEntry now.story.world now.opened has.entry = all_contains (IsEntry now.story.world now.opened) now.opened has.entry new_named.entries (more.opened has.entry has.there) in
    let adapter : IsAdapterIn now.story.world p.producer.device = record { table = entry.table; is = ap (slice_get now.story.world.tables) (ap (λ (x : End). x.device) (sym has.producer_is) ∙ entry.maker) ∙ entry.there } in
    absurd (never_both_kinds now.story.world p.producer.device scanner adapter)

-- the device that made it
pub maker_of : (c : Chronicle) (p : Production) → OpeningsIn c → Contains c.produced p → IsDeviceIn c.story.world p.producer.device
maker_of c p in_order there =
    let openings = in_order.openings in
    let nodes = openings.nodes in
    all_contains (λ (q : Production). IsDeviceIn c.story.world q.producer.device) c.produced p nodes.makers there

-- ---- at the adapter

rows_later : (was now : Chronicle) → AreApart now.story.world.tables → OpeningsIn was → OpeningsIn now → Grown was now → RowsAcceptNothingOlder was now
rows_later was now apart before after more e a later there consumer older =
    let old = before.openings in
    let old_named = old.named in
    let new = after.openings in
    let new_named = new.named in
    let produced = after.produced in
    let entry : IsEntry now.story.world now.opened e = all_contains (IsEntry now.story.world now.opened) now.opened e new_named.entries later.there in
    let accepted : IsAccepted now.story.world now.opened now.produced a = all_contains (IsAccepted now.story.world now.opened now.produced) now.accepted a new.of_openings there in
    let x : IsOfItsOpening now.opened a = accepted.of_opening (record { table = entry.table; is = ap (λ (r : End). slice_get now.story.world.tables r.device) consumer ∙ entry.there }) in
    let same : x.entry ≡ e = same_Some x.entry e (sym x.found ∙ ap (λ (r : End). find (opens_row r) now.opened) consumer ∙ entry.first) in
    let scanner : IsScannerIn now.story.world a.production.producer.device =
    subst (λ (r : End). IsScannerIn now.story.world r.device) (sym (x.producer ∙ ap (λ (o : Opened). o.slot) same)) entry.scanner in
    let maker = maker_of was a.production before older in
    let was_scanner = scanner_made was now a.production maker.table before after more older maker.is scanner in
    let f : IsOpenedFor was.opened a.production.producer a.production.made.datagram.connection = all_contains (ProductionHasEntry was.story.world was.opened) was.produced a.production old_named.productions older was_scanner in
    let other : IsEntry now.story.world now.opened f.entry = all_contains (IsEntry now.story.world now.opened) now.opened f.entry new_named.entries (more.opened f.entry f.there) in
    let one : f.entry ≡ e = entries_same now.story.world now.opened f.entry e (record { ids = produced.drawn; apart = apart }) other entry (f.o_t_is ∙ x.id ∙ ap (λ (o : Opened). o.o_t_id.0) same) in
    later.later (subst (Contains was.opened) one f.there)

-- ---- at the slot

-- the number of an entry's producer was drawn
number_drawn : (w : World) (e : Opened) (t : AdapterTable) → IsOfGroup t e ⊎ IsOwn w e → e.row.number < t.next_id → e.producer.number < t.next_id
number_drawn w e t (inl group) row = omega (arith, group.drawn)
number_drawn w e t (inr own) row = let same = ap (λ (x : End). x.number) own.producer in omega (arith, row, same)

not_first : (b : Bool) (p : Row → Bool) (row : Row) (rows : List Row) → p row ≡ b → cond b (Some row) (find p rows) ≡ None → (find p rows ≡ None → AllByRecursion (λ (r : Row). p r ≡ true → ⊥) rows) → (p row ≡ true → ⊥) × AllByRecursion (λ (r : Row). p r ≡ true → ⊥) rows
not_first true p row rows is none rest = absurd (let e = none in cc)
not_first false p row rows is none rest = ((λ passes. absurd (let e = sym is ∙ passes in cc)), rest none)

not_found : (p : Row → Bool) (rows : List Row) → find p rows ≡ None → AllByRecursion (λ (row : Row). p row ≡ true → ⊥) rows
not_found p [] none = tt
not_found p (row ∷ rows) none = not_first (p row) p row rows refl none (not_found p rows)

-- a producer that has none in the earlier table has ended
has_ended : (was : Chronicle) (p : Production) (t : AdapterTable) → OpeningsIn was → Contains was.produced p → slice_get was.story.world.tables p.producer.device ≡ Some (Adapter t) → find (is_produced_by p.producer.number) t.rows ≡ None → EndedIn was.opened p.producer.device p.producer.number was
has_ended was p t before there at none =
    let old = before.openings in
    let named = old.named in
    let made : IsMadeBy was.opened p.producer p.made = all_contains (ProducerHasEntry was.story.world was.opened) was.produced p named.producers there (record { table = t; is = at }) in
    let has = made.by in
    let entry : IsEntry was.story.world was.opened has.entry = all_contains (IsEntry was.story.world was.opened) was.opened has.entry named.entries has.there in
    let device : has.entry.row.device ≡ p.producer.device = sym entry.maker ∙ ap (λ (x : End). x.device) has.producer_is in
    let same : Adapter entry.table ≡ Adapter t = table_same was.story.world p.producer.device (Adapter entry.table) (Adapter t) (ap (slice_get was.story.world.tables) (sym device) ∙ entry.there) at in
    let next : entry.table.next_id ≡ t.next_id = ap next_of same in
    let drawn = number_drawn was.story.world has.entry entry.table entry.t_o entry.drawn in
    let number : has.entry.producer.number ≡ p.producer.number = ap (λ (x : End). x.number) has.producer_is in
    record {
      table = t;
      there = at;
      past = omega (arith, drawn, next, number);
      none = not_found (is_produced_by p.producer.number) t.rows none;
      old = all_more (Contains was.opened) (IsOld was.opened (end_at p.producer.device p.producer.number)) (λ e here same. here) was.opened (all_contained was.opened [] was.opened refl);
    }
  where
    next_of : DeviceTable → ℕ
    next_of (Adapter x) = x.next_id
    next_of (Scanner x) = x.next_id

living : AnswersSendWhatIsMade → SchedulesKeepIdsDrawn → AnIdOpensOneConnection → NameLaws → (was now : Chronicle) (late : List Act) (e : Opened) (p : Production) (t : AdapterTable) (found : Option Row) → chronicles (Ok was) late ≡ Ok now → AreApart now.story.world.tables → OpeningsIn was → WasOpenedLater was now e → e.producer ≡ p.producer → Contains was.produced p → slice_get was.story.world.tables p.producer.device ≡ Some (Adapter t) → find (is_produced_by p.producer.number) t.rows ≡ found → HasConnection was p.producer
living sends keep once laws was now late e p t (Some row) is apart before later same there at found = record { table = t; is = at; row = row; there = found }
living sends keep once laws was now late e p t None is apart before later same there at none =
    let ended = ended_later sends keep once laws was.opened p.producer.device p.producer.number was now late is apart before (has_ended was p t before there at none) in
    absurd (later.later (all_contains (IsOld was.opened (end_at p.producer.device p.producer.number)) now.opened e ended.old later.there same))

slots_later : AnswersSendWhatIsMade → SchedulesKeepIdsDrawn → AnIdOpensOneConnection → NameLaws → (was now : Chronicle) (late : List Act) → chronicles (Ok was) late ≡ Ok now → AreApart now.story.world.tables → OpeningsIn was → OpeningsIn now → OpenedOnce now.story.world now.opened → Grown was now → SlotsAcceptOfTheLiving was now
slots_later sends keep law laws was now late is apart before after once more e a later there consumer id older =
    let new = after.openings in
    let new_named = new.named in
    let produced = after.produced in
    let entry : IsEntry now.story.world now.opened e = all_contains (IsEntry now.story.world now.opened) now.opened e new_named.entries later.there in
    let accepted : IsAccepted now.story.world now.opened now.produced a = all_contains (IsAccepted now.story.world now.opened now.produced) now.accepted a new.of_openings there in
    let of : IsOfItsEntry now.opened a = accepted.of_entry (subst (λ (r : End). IsScannerIn now.story.world r.device) (sym consumer) entry.scanner) in
    let drawn : AreDrawnApart now.story.world = record { ids = produced.drawn; apart = apart } in
    let x = slot_producer now.story.world now.opened now.produced a drawn once new_named.entries new_named.producers accepted.was_produced of in
    let from = x.of in
    let other : IsEntry now.story.world now.opened from.entry = all_contains (IsEntry now.story.world now.opened) now.opened from.entry new_named.entries from.there in
    let same : e.producer ≡ a.production.producer =
    one_producer now.story.world now.opened e from.entry drawn once later.there from.there entry other (sym id ∙ from.id) ∙ sym x.producer in
    let adapter : IsAdapterIn now.story.world a.production.producer.device =
    record { table = entry.table; is = ap (slice_get now.story.world.tables) (ap (λ (r : End). r.device) (sym same) ∙ entry.maker) ∙ entry.there } in
    let maker = maker_of was a.production before older in
    let table = adapter_made was now a.production maker.table before after more older maker.is adapter in
    living sends keep law laws was now late e a.production table.table (find (is_produced_by a.production.producer.number) table.table.rows) is apart before later same older table.is refl

-- ---- one producer

-- an O->T id is no T->O id
never_one : (c : Chronicle) (p q : Production) → OpeningsIn c → Contains c.produced p → Contains c.produced q → IsScannerIn c.story.world p.producer.device → IsAdapterIn c.story.world q.producer.device → p.made.datagram.connection ≡ q.made.datagram.connection → ⊥
never_one c p q in_order one two scanner adapter same =
    let openings = in_order.openings in
    let named = openings.named in
    let e : IsOpenedFor c.opened p.producer p.made.datagram.connection = all_contains (ProductionHasEntry c.story.world c.opened) c.produced p named.productions one scanner in
    let made : IsMadeBy c.opened q.producer q.made = all_contains (ProducerHasEntry c.story.world c.opened) c.produced q named.producers two adapter in
    let f = made.by in
    all_contains (Differ e.entry) c.opened f.entry (all_contains (DifferFromAll c.opened) c.opened e.entry named.apart e.there) f.there (e.o_t_is ∙ same ∙ sym f.t_o_is)

scanners_made : (c : Chronicle) (p q : Production) → AreApart c.story.world.tables → OpeningsIn c → Contains c.produced p → Contains c.produced q → IsScannerIn c.story.world p.producer.device → IsScannerIn c.story.world q.producer.device → p.made.datagram.connection ≡ q.made.datagram.connection → p.producer ≡ q.producer
scanners_made c p q apart in_order one two first second same =
    let openings = in_order.openings in
    let named = openings.named in
    let produced = in_order.produced in
    let e : IsOpenedFor c.opened p.producer p.made.datagram.connection = all_contains (ProductionHasEntry c.story.world c.opened) c.produced p named.productions one first in
    let f : IsOpenedFor c.opened q.producer q.made.datagram.connection = all_contains (ProductionHasEntry c.story.world c.opened) c.produced q named.productions two second in
    let entry : IsEntry c.story.world c.opened e.entry = all_contains (IsEntry c.story.world c.opened) c.opened e.entry named.entries e.there in
    let other : IsEntry c.story.world c.opened f.entry = all_contains (IsEntry c.story.world c.opened) c.opened f.entry named.entries f.there in
    let equal = entries_same c.story.world c.opened e.entry f.entry (record { ids = produced.drawn; apart = apart }) entry other (e.o_t_is ∙ same ∙ sym f.o_t_is) in
    sym e.slot_is ∙ ap (λ (x : Opened). x.slot) equal ∙ f.slot_is

by_kinds : (c : Chronicle) (p q : Production) (t u : DeviceTable) → AreApart c.story.world.tables → OpeningsIn c → OpenedOnce c.story.world c.opened → Contains c.produced p → Contains c.produced q → slice_get c.story.world.tables p.producer.device ≡ Some t → slice_get c.story.world.tables q.producer.device ≡ Some u → p.made.datagram.connection ≡ q.made.datagram.connection → p.producer ≡ q.producer
by_kinds c p q (Adapter t) (Adapter u) apart in_order once one two at_p at_q same =
    let openings = in_order.openings in
    let named = openings.named in
    let produced = in_order.produced in
    adapters_made c.story.world c.opened c.produced p q (record { ids = produced.drawn; apart = apart }) once named.entries named.producers one two (record { table = t; is = at_p }) (record { table = u; is = at_q }) same
by_kinds c p q (Scanner t) (Scanner u) apart in_order once one two at_p at_q same = scanners_made c p q apart in_order one two (record { table = t; is = at_p }) (record { table = u; is = at_q }) same
by_kinds c p q (Scanner t) (Adapter u) apart in_order once one two at_p at_q same = absurd (never_one c p q in_order one two (record { table = t; is = at_p }) (record { table = u; is = at_q }) same)
by_kinds c p q (Adapter t) (Scanner u) apart in_order once one two at_p at_q same = absurd (never_one c q p in_order two one (record { table = u; is = at_q }) (record { table = t; is = at_p }) (sym same))

-- ---- the laws

pub name_one_producer : AnswersSendWhatIsMade → SchedulesKeepIdsDrawn → OpeningWorldsHaveIdsDrawn → NameLaws → AnIdOpensOneConnection → SchedulesNameOneProducer
name_one_producer sends keep opens laws once configs acts c is =
    let in_order = schedule_openings sends keep opens once laws configs acts c is in
    let openings = in_order.openings in
    let named = openings.named in
    let produced = in_order.produced in
    let opened = opened_once c (once configs acts c is) in
    record {
      productions = λ p q one two same.
          let a = maker_of c p in_order one in
          let b = maker_of c q in_order two in
          by_kinds c p q a.table b.table is.apart in_order opened one two a.is b.is same;
      connections = λ e f one two same.
          one_producer c.story.world c.opened e f (record { ids = produced.drawn; apart = is.apart }) opened one two (all_contains (IsEntry c.story.world c.opened) c.opened e named.entries one) (all_contains (IsEntry c.story.world c.opened) c.opened f named.entries two) same;
    }

-- the later moment of two is that of a chronicle
pub later_moment : (configs : List Config) (was now : Chronicle) (moments : AreMoments configs was now) → IsChronicle configs (moments.early ++ moments.late) now
later_moment configs was now moments =
    let first = moments.first in
    record {
      lives = first.lives;
      ran = acts_after (Ok (blank (opening_world configs))) moments.early moments.late ∙ ap (λ (c : Result Chronicle ActFault). chronicles c moments.late) first.ran ∙ moments.rest;
      apart = moments.apart;
    }

pub later_accept : AnswersSendWhatIsMade → SchedulesKeepIdsDrawn → OpeningWorldsHaveIdsDrawn → NameLaws → AnIdOpensOneConnection → LaterConnectionsAcceptNothingOlder
later_accept sends keep opens laws once configs was now moments =
    let first = moments.first in
    let whole = later_moment configs was now moments in
    let before = schedule_openings sends keep opens once laws configs moments.early was first in
    let after = schedule_openings sends keep opens once laws configs (moments.early ++ moments.late) now whole in
    let more = grown was now moments.late moments.rest in
    record {
      rows = rows_later was now moments.apart before after more;
      slots = slots_later sends keep once laws was now moments.late moments.rest moments.apart before after (opened_once now (once configs (moments.early ++ moments.late) now whole)) more;
    }
