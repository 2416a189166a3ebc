-- A life is named by each id that it drew, since no two lives have blocks with one id.
use Rattle.std.proofs.Common.{◌≡◌, ◌≤◌, ◌<◌, ◌⊎◌, inl, inr, ℕ, ◌+◌, slice_get, Some, sym, ◌∙◌, ap, subst, arith, eq-eqb}
use Rattle.std.specs.List.{Contains}
use Rattle.cip_types.specs.declared.names.ConnId.{ConnId}
use Rattle.cip_types.specs.Ids.{id_at}
use Rattle.adapter_table.specs.declared.table.AdapterTable.{AdapterTable}
use Rattle.scanner_table.specs.declared.table.ScannerTable.{ScannerTable}
use Rattle.cip_tables.specs.declared.table.DeviceTable.{DeviceTable}
use Rattle.cip_tables.specs.declared.table.DeviceTable.TheVariants.{Adapter, Scanner}
use Rattle.device_laws.specs.Made.{AnswersSendWhatIsMade}
use Rattle.device_laws.specs.Productions.{Production}
use Rattle.schedule_laws.specs.Chronicle.{Chronicle, Opened}
use Rattle.schedule_laws.specs.Ids.{OpeningWorldsHaveIdsDrawn, SchedulesKeepIdsDrawn}
use Rattle.schedule_laws.specs.Lives.{AreApart, HasNumber}
use Rattle.schedule_laws.specs.MadeOnce.{AnIdOpensOneConnection, IdsAreUsedOnce, SchedulesUseIdsOnce, has_id}
use Rattle.schedule_laws.specs.Names.{IsEntry, IsMadeBy, IsOfGroup, IsOpenedFor, IsOwn, ProducerHasEntry, ProductionHasEntry}
use Rattle.schedule_laws.specs.Restarts.{EndsDrewIds, IdsNameLives, LivesAreNamedByIds, WasDrawn, WasDrawnBy}
use Rattle.schedule_laws.specs.Lemmas.Found.{all_contains}
use Rattle.schedule_laws.specs.Lemmas.NameActs.{NameLaws}
use Rattle.schedule_laws.specs.Lemmas.Numbers.{drawn_number}
use Rattle.schedule_laws.specs.Lemmas.OneProducer.{own_number}
use Rattle.schedule_laws.specs.Lemmas.OpeningActs.{OpeningsIn, schedule_openings}
use Rattle.schedule_laws.proofs.LaterConnections.{maker_of}
use Rattle.schedule_laws.proofs.OneConnection.{counted, opened_at_most}
use Rattle.schedule_laws.proofs.UsedOnce.{below_or_not}

-- the moment's ids are drawn, and used once
record AreKnown (c : Chronicle) : Type 0 where
  openings : OpeningsIn c
  used : IdsAreUsedOnce c.story.world c.opened

-- ---- an id names one life

names_one : (c : Chronicle) → AreKnown c → AreApart c.story.world.tables → IdsNameLives c
names_one c known apart a b id one two =
    let openings = known.openings in
    let produced = openings.produced in
    let x = one.numbered in
    let y = two.numbered in
    apart.differ a b one.table two.table x.number y.number one.there two.there
    (drawn_number c.story.world a one.table x.number produced.drawn one.there x.begins x.ends)
    (drawn_number c.story.world b two.table y.number produced.drawn two.there y.begins y.ends) (x.is ∙ sym y.is)

-- ---- who drew an id

adapter_drew : (c : Chronicle) (life id number : ℕ) (t : AdapterTable) → slice_get c.story.world.tables life ≡ Some (Adapter t) → id ≡ (id_at t.ids number).0 → 1 ≤ number → number < t.next_id → WasDrawnBy c life id
adapter_drew c life id number t at is begins below = record { table = Adapter t; there = at; numbered = record { number = number; begins = begins; ends = below; is = sym is } }

-- an id of a scanner that an entry has was drawn: one that may still be drawn is not used
used_is_drawn : (c : Chronicle) (e : Opened) (life number : ℕ) (t : ScannerTable) → IdsAreUsedOnce c.story.world c.opened → Contains c.opened e → slice_get c.story.world.tables life ≡ Some (Scanner t) → HasNumber (Scanner t) number → e.t_o_id.0 ≡ (id_at t.ids number).0 → (number < t.next_id) ⊎ (t.next_id ≤ number) → number < t.next_id
used_is_drawn c e life number t used there at has is (inl below) = below
used_is_drawn c e life number t used there at has is (inr from) =
    let none = used.unused life t number at from has in
    let few = opened_at_most (id_at t.ids number).0 0 c (omega (arith, none)) in
    let one = counted (has_id (id_at t.ids number).0) c.opened e there (eq-eqb e.t_o_id.0 (id_at t.ids number).0 is) in
    absurd (omega (arith, few, one))

scanner_drew : (c : Chronicle) (e : Opened) → AreKnown c → Contains c.opened e → IsOwn c.story.world e → WasDrawnBy c e.slot.device e.t_o_id.0
scanner_drew c e known there own =
    let id = own.id in
    let scanner = own.scanner in
    record {
      table = Scanner scanner.table;
      there = scanner.is;
      numbered = record {
        number = id.number;
        begins = id.begins;
        ends = used_is_drawn c e e.slot.device id.number scanner.table known.used there scanner.is (own_number c.story.world e own) id.is (below_or_not id.number scanner.table.next_id);
        is = sym id.is;
      };
    }

t_o_drew : (c : Chronicle) (e : Opened) (t : AdapterTable) → AreKnown c → Contains c.opened e → slice_get c.story.world.tables e.row.device ≡ Some (Adapter t) → IsOfGroup t e ⊎ IsOwn c.story.world e → WasDrawnBy c e.row.device e.t_o_id.0 ⊎ WasDrawnBy c e.slot.device e.t_o_id.0
t_o_drew c e t known there at (inl group) = inl (adapter_drew c e.row.device e.t_o_id.0 (e.producer.number + 1) t at (ap (λ (id : ConnId). id.0) group.id) (omega arith) group.drawn)
t_o_drew c e t known there at (inr own) = inr (scanner_drew c e known there own)

entry_at : (c : Chronicle) (e : Opened) → OpeningsIn c → Contains c.opened e → IsEntry c.story.world c.opened e
entry_at c e in_order there =
    let openings = in_order.openings in
    let named = openings.named in
    all_contains (IsEntry c.story.world c.opened) c.opened e named.entries there

ends_drew : (c : Chronicle) (e : Opened) → AreKnown c → Contains c.opened e → EndsDrewIds c e
ends_drew c e known there =
    let is = entry_at c e known.openings there in
    let has = is.has in
    record {
      o_t = adapter_drew c e.row.device e.o_t_id.0 e.row.number is.table is.there (ap (λ (id : ConnId). id.0) is.id) has.begins is.drawn;
      t_o = t_o_drew c e is.table known there is.there is.t_o;
    }

drawn_as : (c : Chronicle) (life id other : ℕ) → id ≡ other → WasDrawnBy c life id → WasDrawn c other
drawn_as c life id other same by = record { life = life; by = subst (WasDrawnBy c life) same by }

either_drew : (c : Chronicle) (e : Opened) (id : ℕ) → e.t_o_id.0 ≡ id → WasDrawnBy c e.row.device e.t_o_id.0 ⊎ WasDrawnBy c e.slot.device e.t_o_id.0 → WasDrawn c id
either_drew c e id same (inl by) = drawn_as c e.row.device e.t_o_id.0 id same by
either_drew c e id same (inr by) = drawn_as c e.slot.device e.t_o_id.0 id same by

maker_drew : (c : Chronicle) (p : Production) (t : DeviceTable) → AreKnown c → Contains c.produced p → slice_get c.story.world.tables p.producer.device ≡ Some t → WasDrawn c p.made.datagram.connection
maker_drew c p (Scanner t) known there at =
    let in_order = known.openings in
    let openings = in_order.openings in
    let named = openings.named in
    let opening : IsOpenedFor c.opened p.producer p.made.datagram.connection =
    all_contains (ProductionHasEntry c.story.world c.opened) c.produced p named.productions there (record { table = t; is = at }) in
    let drew = ends_drew c opening.entry known opening.there in
    drawn_as c opening.entry.row.device opening.entry.o_t_id.0 p.made.datagram.connection opening.o_t_is drew.o_t
maker_drew c p (Adapter t) known there at =
    let in_order = known.openings in
    let openings = in_order.openings in
    let named = openings.named in
    let made : IsMadeBy c.opened p.producer p.made =
    all_contains (ProducerHasEntry c.story.world c.opened) c.produced p named.producers there (record { table = t; is = at }) in
    let by = made.by in
    let drew = ends_drew c by.entry known by.there in
    either_drew c by.entry p.made.datagram.connection by.t_o_is drew.t_o

-- ---- the law

pub lives_are_named : AnswersSendWhatIsMade → SchedulesKeepIdsDrawn → OpeningWorldsHaveIdsDrawn → AnIdOpensOneConnection → NameLaws → SchedulesUseIdsOnce → LivesAreNamedByIds
lives_are_named sends keep opens once laws used configs acts c is =
    let known : AreKnown c = record {
      openings = schedule_openings sends keep opens once laws configs acts c is;
      used = used configs acts c is;
    } in
    record {
      lives = names_one c known is.apart;
      connections = λ e there. ends_drew c e known there;
      productions = λ p there. let maker = maker_of c p known.openings there in maker_drew c p maker.table known there maker.is;
    }
