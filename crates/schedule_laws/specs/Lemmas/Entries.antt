-- Entries of the chronicle stay true as it goes on: tables keep their kind, their profile and the ids of their blocks, and
-- entries are added behind.
use Rattle.std.proofs.Common.{◌≡◌, ◌≢◌, ◌≤◌, ◌⊎◌, inl, inr, ℕ, ◌+◌, ◌==◌, Bool, true, false, List, ◌++◌, set, slice_get, slice_index_or, Some, Result, Ok, Err, refl, sym, ◌∙◌, ap, subst, arith, eqb-true}
use Rattle.std.specs.List.{AllByRecursion}
use Rattle.std.proofs.lemmas.List.Elements.{Contains-append_left}
use Rattle.std.proofs.lemmas.Option.{same_Some}
use Rattle.std.proofs.lemmas.Bool.{eqb-false}
use Rattle.base_lemmas.specs.Lists.{set_own, set_other}
use Rattle.cip_types.specs.IdLaws.{extends_ends, extends_itself}
use Rattle.cip_types.specs.Ids.{Extends}
use Rattle.cip_types.specs.declared.ids.IdBlock.{IdBlock}
use Rattle.cip_types.specs.declared.names.ConnId.{ConnId}
use Rattle.cip_types.specs.declared.names.Node.{Node}
use Rattle.cip_events.specs.declared.event.Answer.{Answer}
use Rattle.cip_events.specs.declared.event.Event.{Event}
use Rattle.cip_events.specs.declared.event.StepFault.{StepFault}
use Rattle.adapter_table.specs.declared.profile.Profile.{Profile}
use Rattle.adapter_table.specs.Connections.{Row}
use Rattle.adapter_table.specs.declared.table.AdapterTable.{AdapterTable}
use Rattle.adapter_table.specs.declared.table.Stream as adapter_stream
use Rattle.adapter_table.specs.Requests.{Next}
use Rattle.adapter_table.specs.Step.{adapter_step}
use Rattle.scanner_table.specs.declared.profile.ScannerProfile.{ScannerProfile}
use Rattle.scanner_table.specs.declared.slot.SlotState.{SlotState}
use Rattle.scanner_table.specs.declared.slot.SlotState.TheVariants.{Idle, Opening, Established, TimedOut, Closing}
use Rattle.scanner_table.specs.declared.table.ScannerTable.{ScannerTable}
use Rattle.scanner_table.specs.Effects.{Next as ScannerNext}
use Rattle.scanner_table.specs.Slots.{IndexedSlot, indexed_slots}
use Rattle.scanner_table.specs.Step.{scanner_step}
use Rattle.cip_tables.specs.declared.table.DeviceTable.{DeviceTable}
use Rattle.cip_tables.specs.declared.table.DeviceTable.TheVariants.{Adapter, Scanner}
use Rattle.cip_tables.specs.Step.{DeviceNext, as_adapter, as_scanner, step, node_of}
use Rattle.segment_world.specs.World.{World, node_at}
use Rattle.device_laws.specs.Lemmas.Lists.{all_more}
use Rattle.device_laws.specs.Plain.{IsPlainFrame}
use Rattle.schedule_laws.specs.Lemmas.Drawing.{StepLaws}
use Rattle.schedule_laws.specs.Lemmas.Numbers.{id_later, number_later}
use Rattle.schedule_laws.specs.Lemmas.Tests.{set_cases}
use Rattle.cip_tables.specs.Whole.{ids_of, next_id_of}
use Rattle.cip_events.specs.declared.event.Reason.{Reason}
use Rattle.cip_fwdopen.specs.Open.{OpenFields}
use Rattle.cip_fwdopen.specs.declared.reply.Opened as made
use Rattle.cip_fwdopen.specs.declared.reply.OpenAnswer.{OpenAnswer}
use Rattle.cip_fwdopen.specs.declared.reply.OpenAnswer.TheVariants as answer
use Rattle.scanner_table.specs.Replies.{open_answer}
use Rattle.scanner_table.specs.declared.table.TargetStream.{TargetStream}
use Rattle.device_laws.specs.OwnIds.{IsDrawnId, AsksOwnId}
use Rattle.device_laws.specs.Frames.{SuccessIs, SuccessesAre, IsNoOpening, ContextFits, OpeningsAre}
use Rattle.device_laws.specs.Productions.{End, end_at, Production}
use Rattle.schedule_laws.specs.Chronicle.{Opened, opens_row}
use Rattle.schedule_laws.specs.Names.{IsScannerIn, IsAdapterIn, IsOfGroup, IsOwn, IsEntry, HasEntry, IsOpenedFor, IsOpenedWith, IsOpenedAt, StateHasEntry, SlotHasEntry, ProductionHasEntry}
use Rattle.schedule_laws.specs.Streams.{IsOver, IsOpenTo}
use Rattle.schedule_laws.specs.Lemmas.Found.{find_more}
use Rattle.schedule_laws.specs.Lemmas.StreamActs.{EndsStay}

-- ---- tables

pub record AdapterStays (t u : AdapterTable) : Type 0 where
  pub profile : u.profile ≡ t.profile
  pub blocks : Extends t.ids u.ids
  pub ids : t.next_id ≤ u.next_id

pub record ScannerStays (t u : ScannerTable) : Type 0 where
  pub profile : u.profile ≡ t.profile
  pub blocks : Extends t.ids u.ids

-- a device's table later on: of the same kind, with the same profile, and its blocks go on from those that it had
abbrev pub DeviceStays : DeviceTable → DeviceTable → Type 0
DeviceStays (Adapter t) (Adapter u) = AdapterStays t u
DeviceStays (Adapter t) (Scanner u) = ⊥
DeviceStays (Scanner t) (Adapter u) = ⊥
DeviceStays (Scanner t) (Scanner u) = ScannerStays t u

device_same : (t : DeviceTable) → DeviceStays t t
device_same (Adapter t) = record { profile = refl; blocks = extends_itself t.ids; ids = omega arith }
device_same (Scanner t) = record { profile = refl; blocks = extends_itself t.ids }

adapter_stays : StepLaws → (t : AdapterTable) (happens : Event) (said : Result Next StepFault) (a : Answer) (u : DeviceTable) → adapter_step t happens ≡ said → as_adapter said ≡ Ok (a, u) → Extends t.ids (ids_of u) → next_id_of (Adapter t) ≤ next_id_of u → DeviceStays (Adapter t) u
adapter_stays laws t happens (Err why) a u stepped is grows up = absurd (let e = is in cc)
adapter_stays laws t happens (Ok n) a u stepped is grows up =
    let same : u ≡ Adapter n.1 = next_of n.0 a (Adapter n.1) u is in
    subst (DeviceStays (Adapter t)) (sym same) (record {
      profile = laws.adapters t.profile t happens n stepped refl;
      blocks = subst (λ (x : DeviceTable). Extends t.ids (ids_of x)) same grows;
      ids = let e = ap next_id_of same in omega (arith, up, e);
    })
  where
    ok_of : DeviceNext → Result DeviceNext StepFault
    ok_of n = Ok n

    inside : (x y : DeviceNext) → ok_of x ≡ ok_of y → x ≡ y
    inside x y e = cc

    next_of : (a b : Answer) (x y : DeviceTable) → ok_of (a, x) ≡ ok_of (b, y) → y ≡ x
    next_of a b x y e = sym (ap (λ (p : DeviceNext). p.1) (inside (a, x) (b, y) e))

scanner_stays : StepLaws → (t : ScannerTable) (happens : Event) (said : Result ScannerNext StepFault) (a : Answer) (u : DeviceTable) → scanner_step t happens ≡ said → as_scanner said ≡ Ok (a, u) → DeviceStays (Scanner t) u
scanner_stays laws t happens (Err why) a u stepped is = absurd (let e = is in cc)
scanner_stays laws t happens (Ok n) a u stepped is =
    let same : u ≡ Scanner n.1 = next_of n.0 a (Scanner n.1) u is in
    let counts = laws.scanners t happens n stepped in
    subst (DeviceStays (Scanner t)) (sym same) (record { profile = counts.profile; blocks = counts.blocks })
  where
    ok_of : DeviceNext → Result DeviceNext StepFault
    ok_of n = Ok n

    inside : (x y : DeviceNext) → ok_of x ≡ ok_of y → x ≡ y
    inside x y e = cc

    next_of : (a b : Answer) (x y : DeviceTable) → ok_of (a, x) ≡ ok_of (b, y) → y ≡ x
    next_of a b x y e = sym (ap (λ (p : DeviceNext). p.1) (inside (a, x) (b, y) e))

pub step_stays : StepLaws → (t : DeviceTable) (happens : Event) (a : Answer) (u : DeviceTable) → step t happens ≡ Ok (a, u) → DeviceStays t u
unfolding step
step_stays laws (Adapter t) happens a u is = adapter_stays laws t happens (adapter_step t happens) a u refl is (laws.blocks (Adapter t) happens (a, u) is) (laws.counts (Adapter t) happens (a, u) is)
step_stays laws (Scanner t) happens a u is = scanner_stays laws t happens (scanner_step t happens) a u refl is

pub nodes_same : (t u : DeviceTable) → DeviceStays t u → node_of u ≡ node_of t
nodes_same (Adapter t) (Adapter u) stays = ap (λ (p : Profile). p.node) stays.profile
nodes_same (Adapter t) (Scanner u) stays = absurd stays
nodes_same (Scanner t) (Adapter u) stays = absurd stays
nodes_same (Scanner t) (Scanner u) stays = ap (λ (p : ScannerProfile). p.node) stays.profile

pub stays_blocks : (t u : DeviceTable) → DeviceStays t u → Extends (ids_of t) (ids_of u)
stays_blocks (Adapter t) (Adapter u) stays = stays.blocks
stays_blocks (Adapter t) (Scanner u) stays = absurd stays
stays_blocks (Scanner t) (Adapter u) stays = absurd stays
stays_blocks (Scanner t) (Scanner u) stays = stays.blocks

-- ---- a world later on

pub record Stayed (w : World) (device : ℕ) (t : DeviceTable) : Type 0 where
  pub table : DeviceTable
  pub there : slice_get w.tables device ≡ Some table
  pub stays : DeviceStays t table

-- each device is there before and after
pub record Later (w new : World) : Type 0 where
  pub tables : (device : ℕ) (t : DeviceTable) → slice_get w.tables device ≡ Some t → Stayed new device t
  pub back : (device : ℕ) (u : DeviceTable) → slice_get new.tables device ≡ Some u → (t : DeviceTable) × (slice_get w.tables device ≡ Some t) × DeviceStays t u
  pub nodes : new.nodes ≡ w.nodes
  pub ends : EndsStay w.streams new.streams

pub same_later : (w new : World) → new.tables ≡ w.tables → new.nodes ≡ w.nodes → EndsStay w.streams new.streams → Later w new
same_later w new tables nodes ends = record {
  tables = λ device t at. record { table = t; there = ap (λ (ts : List DeviceTable). slice_get ts device) tables ∙ at; stays = device_same t };
  back = λ device u at. (u, ap (λ (ts : List DeviceTable). slice_get ts device) (sym tables) ∙ at, device_same u);
  nodes = nodes;
  ends = ends;
}

set_stays : (b : Bool) (tables : List DeviceTable) (d : ℕ) (t u : DeviceTable) (device : ℕ) (x : DeviceTable) → (device == d) ≡ b → slice_get tables d ≡ Some t → DeviceStays t u → slice_get tables device ≡ Some x → (y : DeviceTable) × (slice_get (set tables d u) device ≡ Some y) × DeviceStays x y
set_stays true tables d t u device x is at stays there =
    let one : device ≡ d = eqb-true device d is in
    let same : x ≡ t = same_Some x t (sym there ∙ ap (slice_get tables) one ∙ at) in
    (u, ap (slice_get (set tables d u)) one ∙ set_own tables d t u at, subst (λ (z : DeviceTable). DeviceStays z u) (sym same) stays)
set_stays false tables d t u device x is at stays there = (x, set_other tables d device u (eqb-false device d is) ∙ there, device_same x)

set_back : (tables : List DeviceTable) (d : ℕ) (t u : DeviceTable) (device : ℕ) (y : DeviceTable) → slice_get tables d ≡ Some t → DeviceStays t u → ((device ≡ d) × (y ≡ u)) ⊎ ((device ≢ d) × (slice_get tables device ≡ Some y)) → (x : DeviceTable) × (slice_get tables device ≡ Some x) × DeviceStays x y
set_back tables d t u device y at stays (inl own) = (t, ap (slice_get tables) own.0 ∙ at, subst (DeviceStays t) (sym own.1) stays)
set_back tables d t u device y at stays (inr other) = (y, other.1, device_same y)

pub set_later : (w new : World) (d : ℕ) (t u : DeviceTable) → slice_get w.tables d ≡ Some t → DeviceStays t u → new.tables ≡ set w.tables d u → new.nodes ≡ w.nodes → EndsStay w.streams new.streams → Later w new
set_later w new d t u at stays tables nodes ends = record {
  tables = λ device x there.
      let after = set_stays (device == d) w.tables d t u device x refl at stays there in
      record { table = after.0; there = ap (λ (ts : List DeviceTable). slice_get ts device) tables ∙ after.1; stays = after.2 };
  back = λ device y there. set_back w.tables d t u device y at stays (set_cases w.tables d device t u y at (ap (λ (ts : List DeviceTable). slice_get ts device) (sym tables) ∙ there));
  nodes = nodes;
  ends = ends;
}

-- ---- what holds later on

scanner_on : (new : World) (device : ℕ) (t : ScannerTable) (u : DeviceTable) → slice_get new.tables device ≡ Some u → DeviceStays (Scanner t) u → IsScannerIn new device
scanner_on new device t (Adapter u) at stays = absurd stays
scanner_on new device t (Scanner u) at stays = record { table = u; is = at }

pub scanner_later : (w new : World) (device : ℕ) → Later w new → IsScannerIn w device → IsScannerIn new device
scanner_later w new device later is = let after = later.tables device (Scanner is.table) is.is in scanner_on new device is.table after.table after.there after.stays

scanner_off : (w : World) (device : ℕ) (u : ScannerTable) (t : DeviceTable) → slice_get w.tables device ≡ Some t → DeviceStays t (Scanner u) → IsScannerIn w device
scanner_off w device u (Adapter t) at stays = absurd stays
scanner_off w device u (Scanner t) at stays = record { table = t; is = at }

pub scanner_back : (w new : World) (device : ℕ) → Later w new → IsScannerIn new device → IsScannerIn w device
scanner_back w new device later is = let before = later.back device (Scanner is.table) is.is in scanner_off w device is.table before.0 before.1 before.2

adapter_off : (w : World) (device : ℕ) (u : AdapterTable) (t : DeviceTable) → slice_get w.tables device ≡ Some t → DeviceStays t (Adapter u) → IsAdapterIn w device
adapter_off w device u (Adapter t) at stays = record { table = t; is = at }
adapter_off w device u (Scanner t) at stays = absurd stays

pub adapter_back : (w new : World) (device : ℕ) → Later w new → IsAdapterIn new device → IsAdapterIn w device
adapter_back w new device later is = let before = later.back device (Adapter is.table) is.is in adapter_off w device is.table before.0 before.1 before.2

-- a scanner of a later world: its blocks go on from those that it had
pub record ScannerNow (new : World) (device : ℕ) (t : ScannerTable) : Type 0 where
  pub table : ScannerTable
  pub is : slice_get new.tables device ≡ Some (Scanner table)
  pub blocks : Extends t.ids table.ids

scanner_now_on : (new : World) (device : ℕ) (t : ScannerTable) (u : DeviceTable) → slice_get new.tables device ≡ Some u → DeviceStays (Scanner t) u → ScannerNow new device t
scanner_now_on new device t (Adapter u) at stays = absurd stays
scanner_now_on new device t (Scanner u) at stays = record { table = u; is = at; blocks = stays.blocks }

pub scanner_now : (w new : World) (device : ℕ) (t : ScannerTable) → Later w new → slice_get w.tables device ≡ Some (Scanner t) → ScannerNow new device t
scanner_now w new device t later at = let after = later.tables device (Scanner t) at in scanner_now_on new device t after.table after.there after.stays

drawn_later : (a b : List IdBlock) (id : ℕ) → Extends a b → IsDrawnId a id → IsDrawnId b id
drawn_later a b id grows is =
    let ends = is.ends in
    let more = extends_ends a b grows in
    record {
      number = is.number;
      is = is.is ∙ ap (λ (x : ConnId). x.0) (sym (grows.same is.number is.begins (omega (arith, ends))));
      begins = is.begins;
      ends = omega (arith, ends, more);
    }

pub own_later : (w new : World) (e : Opened) → Later w new → IsOwn w e → IsOwn new e
own_later w new e later own =
    let was = own.scanner in
    let now = scanner_now w new e.slot.device was.table later was.is in
    record { scanner = record { table = now.table; is = now.is }; id = drawn_later was.table.ids now.table.ids e.t_o_id.0 now.blocks own.id; producer = own.producer }

t_o_later : (w new : World) (t u : AdapterTable) (e : Opened) → Later w new → AdapterStays t u → IsOfGroup t e ⊎ IsOwn w e → IsOfGroup u e ⊎ IsOwn new e
t_o_later w new t u e later stays (inl group) =
    inl (record {
      has = number_later (Adapter t) (Adapter u) (e.producer.number + 1) stays.blocks group.has;
      id = group.id ∙ sym (id_later (Adapter t) (Adapter u) (e.producer.number + 1) stays.blocks group.has);
      drawn = omega (arith, group.drawn, stays.ids);
    })
t_o_later w new t u e later stays (inr own) = inr (own_later w new e later own)

entry_on : (w new : World) (opened more : List Opened) (e : Opened) (u : DeviceTable) → Later w new → (is : IsEntry w opened e) → slice_get new.tables e.row.device ≡ Some u → DeviceStays (Adapter is.table) u → IsEntry new (opened ++ more) e
entry_on w new opened more e (Scanner u) later is at stays = absurd stays
entry_on w new opened more e (Adapter u) later is at stays = record {
  table = u;
  there = at;
  has = number_later (Adapter is.table) (Adapter u) e.row.number stays.blocks is.has;
  drawn = omega (arith, is.drawn, stays.ids);
  id = is.id ∙ sym (id_later (Adapter is.table) (Adapter u) e.row.number stays.blocks is.has);
  scanner = scanner_later w new e.slot.device later is.scanner;
  first = find_more (opens_row e.row) opened more e is.first;
  maker = is.maker;
  t_o = t_o_later w new is.table u e later stays is.t_o;
}

pub entry_later : (w new : World) (opened more : List Opened) (e : Opened) → Later w new → IsEntry w opened e → IsEntry new (opened ++ more) e
entry_later w new opened more e later is =
    let after = later.tables e.row.device (Adapter is.table) is.there in
    entry_on w new opened more e after.table later is after.there after.stays

pub node_later : (w new : World) (device : ℕ) → Later w new → node_at new device ≡ node_at w device
node_later w new device later = ap (λ (nodes : List Node). slice_index_or nodes device (record { 0 = 0 })) later.nodes

pub has_later : (w new : World) (opened more : List Opened) (device : ℕ) (row : Row) → Later w new → HasEntry w opened device row → HasEntry new (opened ++ more) device row
has_later w new opened more device row later is = record {
  entry = is.entry;
  found = find_more (opens_row (end_at device row.opening)) opened more is.entry is.found;
  o_t = is.o_t;
  t_o = is.t_o;
  peer = is.peer ∙ sym (node_later w new is.entry.slot.device later);
  producer = is.producer;
}

pub for_later : (opened more : List Opened) (slot : End) (o_t : ℕ) → IsOpenedFor opened slot o_t → IsOpenedFor (opened ++ more) slot o_t
for_later opened more slot o_t is = record { entry = is.entry; there = Contains-append_left opened more is.entry is.there; slot_is = is.slot_is; o_t_is = is.o_t_is }

pub with_later : (opened more : List Opened) (adapter : ℕ) (slot : End) (o_t t_o : ℕ) → IsOpenedWith opened adapter slot o_t t_o → IsOpenedWith (opened ++ more) adapter slot o_t t_o
with_later opened more adapter slot o_t t_o is = record { entry = is.entry; there = Contains-append_left opened more is.entry is.there; adapter_is = is.adapter_is; slot_is = is.slot_is; o_t_is = is.o_t_is; t_o_is = is.t_o_is }

at_later : (w new : World) (opened more : List Opened) (target : Node) (slot : End) (o_t t_o : ℕ) → Later w new → IsOpenedAt w opened target slot o_t t_o → IsOpenedAt new (opened ++ more) target slot o_t t_o
at_later w new opened more target slot o_t t_o later is = record {
  adapter = is.adapter;
  target_is = is.target_is ∙ sym (ap (λ (n : Node). n.0) (node_later w new is.adapter later));
  opening = with_later opened more is.adapter slot o_t t_o is.opening;
}

state_later : (w new : World) (opened more : List Opened) (device : ℕ) (target : Node) (state : SlotState) → Later w new → StateHasEntry w opened device target state → StateHasEntry new (opened ++ more) device target state
state_later w new opened more device target Idle later is = tt
state_later w new opened more device target (Opening o) later is = tt
state_later w new opened more device target (Established c) later is = at_later w new opened more target (end_at device c.opening) c.link.o_t_id.0 c.link.t_o_id.0 later is
state_later w new opened more device target (TimedOut link) later is = tt
state_later w new opened more device target (Closing c) later is = tt

pub slots_later : (w new : World) (opened more : List Opened) (device : ℕ) (all : List IndexedSlot) → Later w new → AllByRecursion (SlotHasEntry w opened device) all → AllByRecursion (SlotHasEntry new (opened ++ more) device) all
slots_later w new opened more device all later are =
    all_more (SlotHasEntry w opened device) (SlotHasEntry new (opened ++ more) device) (λ place is. state_later w new opened more device place.config.target place.slot.state later is) all are

pub production_later : (w new : World) (opened more : List Opened) (p : Production) → Later w new → ProductionHasEntry w opened p → ProductionHasEntry new (opened ++ more) p
production_later w new opened more p later is = λ scanner. for_later opened more p.producer p.made.datagram.connection (is (scanner_back w new p.producer.device later scanner))

-- ---- what waits on streams

pub record IsDeviceIn (w : World) (device : ℕ) : Type 0 where
  pub table : DeviceTable
  pub is : slice_get w.tables device ≡ Some table

-- A frame that waits was sent by a device. Each success in it has its entry at that device, which is of an opening of the device
-- that takes it; an adapter sends no request to open, a scanner asks for its own ids, and no frame opens a class 3 connection.
pub record Waits (w : World) (opened : List Opened) (giver taker : ℕ) (bytes : List ℕ) : Type 0 where
  pub sender : IsDeviceIn w giver
  pub context : ContextFits bytes
  pub successes : SuccessesAre (λ number o. IsOpenedWith opened giver (end_at taker number) o.o_t_id.0 o.t_o_id.0) bytes
  pub opens_nothing : IsAdapterIn w giver → IsNoOpening bytes
  pub asks : (s : ScannerTable) → slice_get w.tables giver ≡ Some (Scanner s) → OpeningsAre (AsksOwnId s.ids) bytes
  pub plain : IsPlainFrame bytes

pub device_later : (w new : World) (device : ℕ) → Later w new → IsDeviceIn w device → IsDeviceIn new device
device_later w new device later is = let after = later.tables device is.table is.is in record { table = after.table; is = after.there }

-- ---- streams of an adapter's table

-- the stream goes to another device, whose node is its peer
abbrev pub IsKnown : World → ℕ → adapter_stream.Stream → Type 0
IsKnown w device s = IsOpenTo w device s.number s.peer

pub over_later : (w new : World) (device other n : ℕ) → Later w new → IsOver w device other n → IsOver new device other n
over_later w new device other n later is = let stay = later.ends in record { ends = is.ends; there = stay.there n is.ends is.there; apart = is.apart; between = is.between }

pub known_later : (w new : World) (device : ℕ) (s : adapter_stream.Stream) → Later w new → IsKnown w device s → IsKnown new device s
known_later w new device s later is = record { other = is.other; over = over_later w new device is.other s.number later is.over; peer_is = is.peer_is ∙ sym (node_later w new is.other later) }

-- ---- streams of a scanner's table

abbrev pub IsKnownTo : World → ℕ → TargetStream → Type 0
IsKnownTo w device s = IsOpenTo w device s.number s.peer

pub known_to_later : (w new : World) (device : ℕ) (s : TargetStream) → Later w new → IsKnownTo w device s → IsKnownTo new device s
known_to_later w new device s later is = record { other = is.other; over = over_later w new device is.other s.number later is.over; peer_is = is.peer_is ∙ sym (node_later w new is.other later) }

-- ---- what holds of a device's table

pub record AdapterIsNamed (w : World) (opened : List Opened) (device : ℕ) (t : AdapterTable) : Type 0 where
  pub rows : AllByRecursion (HasEntry w opened device) t.rows
  pub streams : AllByRecursion (IsKnown w device) t.streams

pub record ScannerIsNamed (w : World) (opened : List Opened) (device : ℕ) (t : ScannerTable) : Type 0 where
  pub slots : AllByRecursion (SlotHasEntry w opened device) (indexed_slots t)
  pub streams : AllByRecursion (IsKnownTo w device) t.streams

abbrev pub TableIsNamed : World → List Opened → ℕ → DeviceTable → Type 0
TableIsNamed w opened device (Adapter t) = AdapterIsNamed w opened device t
TableIsNamed w opened device (Scanner t) = ScannerIsNamed w opened device t

pub table_later : (w new : World) (opened more : List Opened) (device : ℕ) (t : DeviceTable) → Later w new → TableIsNamed w opened device t → TableIsNamed new (opened ++ more) device t
table_later w new opened more device (Adapter t) later is = record {
  rows = all_more (HasEntry w opened device) (HasEntry new (opened ++ more) device) (λ row. has_later w new opened more device row later) t.rows is.rows;
  streams = all_more (IsKnown w device) (IsKnown new device) (λ s. known_later w new device s later) t.streams is.streams;
}
table_later w new opened more device (Scanner t) later is = record {
  slots = slots_later w new opened more device (indexed_slots t) later is.slots;
  streams = all_more (IsKnownTo w device) (IsKnownTo new device) (λ s. known_to_later w new device s later) t.streams is.streams;
}

success_more : (P Q : made.Opened → Type 0) → ((o : made.Opened) → P o → Q o) → (said : Result OpenAnswer Reason) → SuccessIs P said → SuccessIs Q said
success_more P Q more (Err why) is = tt
success_more P Q more (Ok (answer.Refused refusal)) is = tt
success_more P Q more (Ok (answer.Opened o)) is = more o is

pub successes_more : (P Q : ℕ → made.Opened → Type 0) → ((number : ℕ) (o : made.Opened) → P number o → Q number o) → (bytes : List ℕ) → SuccessesAre P bytes → SuccessesAre Q bytes
successes_more P Q more bytes are = λ m is large. success_more (P m.context) (Q m.context) (more m.context) (open_answer large m) (are m is large)

pub asks_more : (a b : List IdBlock) (request : OpenFields) → Extends a b → AsksOwnId a request → AsksOwnId b request
asks_more a b request grows (inl many) = inl many
asks_more a b request grows (inr own) = inr (drawn_later a b request.t_o_id.0 grows own)

asks_on : (new : World) (giver : ℕ) (bytes : List ℕ) (s : ScannerTable) (t : DeviceTable) → ((x : ScannerTable) → t ≡ Scanner x → OpeningsAre (AsksOwnId x.ids) bytes) → DeviceStays t (Scanner s) → OpeningsAre (AsksOwnId s.ids) bytes
asks_on new giver bytes s (Adapter t) asks stays = absurd stays
asks_on new giver bytes s (Scanner t) asks stays = λ request is. asks_more t.ids s.ids request stays.blocks (asks t refl request is)

asks_later : (w new : World) (giver : ℕ) (bytes : List ℕ) → Later w new → ((s : ScannerTable) → slice_get w.tables giver ≡ Some (Scanner s) → OpeningsAre (AsksOwnId s.ids) bytes) → (s : ScannerTable) → slice_get new.tables giver ≡ Some (Scanner s) → OpeningsAre (AsksOwnId s.ids) bytes
asks_later w new giver bytes later asks s at =
    let before = later.back giver (Scanner s) at in
    asks_on new giver bytes s before.0 (λ x is. asks x (before.1 ∙ ap Some is)) before.2

pub waits_later : (w new : World) (opened more : List Opened) → Later w new → (giver taker : ℕ) (bytes : List ℕ) → Waits w opened giver taker bytes → Waits new (opened ++ more) giver taker bytes
waits_later w new opened more later giver taker bytes is = record {
  sender = device_later w new giver later is.sender;
  context = is.context;
  successes = successes_more (λ number o. IsOpenedWith opened giver (end_at taker number) o.o_t_id.0 o.t_o_id.0) (λ number o. IsOpenedWith (opened ++ more) giver (end_at taker number) o.o_t_id.0 o.t_o_id.0)
      (λ number o. with_later opened more giver (end_at taker number) o.o_t_id.0 o.t_o_id.0) bytes is.successes;
  opens_nothing = λ adapter. is.opens_nothing (adapter_back w new giver later adapter);
  asks = asks_later w new giver bytes later is.asks;
  plain = is.plain;
}
