-- Each act keeps that connections, open slots and a scanner's productions have their entries, and that what waits on streams
-- has them.
use Rattle.std.proofs.Common.{◌≡◌, ◌≢◌, ◌<◌, ◌⊎◌, inl, inr, ℕ, ◌^◌, List, [], ◌∷◌, ◌++◌, map, set, slice_get, Some, Result, Ok, Err, sym, ◌∙◌, ap, subst, append-nil}
use Rattle.std.specs.List.{AllByRecursion}
use Rattle.base_lemmas.specs.Lists.{set_own}
use Rattle.cip_events.specs.declared.event.Answer.{Answer}
use Rattle.cip_events.specs.declared.event.Event.{Event}
use Rattle.cip_events.specs.declared.event.Event.TheVariants as event
use Rattle.cip_events.specs.declared.event.Frame.{Frame}
use Rattle.cip_events.specs.declared.event.StepFault.{StepFault}
use Rattle.adapter_table.specs.Connections.{Row}
use Rattle.adapter_table.specs.declared.table.AdapterTable.{AdapterTable}
use Rattle.adapter_table.specs.Requests.{Next}
use Rattle.adapter_table.specs.Step.{adapter_step}
use Rattle.scanner_table.specs.declared.table.ScannerTable.{ScannerTable}
use Rattle.scanner_table.specs.Effects.{Next as ScannerNext}
use Rattle.scanner_table.specs.Slots.{indexed_slots}
use Rattle.scanner_table.specs.Step.{scanner_step}
use Rattle.cip_tables.specs.declared.table.DeviceTable.{DeviceTable}
use Rattle.cip_tables.specs.declared.table.DeviceTable.TheVariants.{Adapter, Scanner}
use Rattle.cip_tables.specs.Step.{DeviceNext, as_adapter, as_scanner, step}
use Rattle.cip_tables.specs.Whole.{IsWholeDevice}
use Rattle.segment_world.specs.World.{World, ReportedEvent, happens}
use Rattle.segment_world.specs.Transit.Streams.{Stream, answered}
use Rattle.device_laws.specs.Ids.{RowIds}
use Rattle.device_laws.specs.Carrying.{Passes as Passing}
use Rattle.device_laws.specs.Lemmas.Lists.{all_both, all_more}
use Rattle.device_laws.specs.OwnIds.{FrameAsks, ScannersAskOwnIds}
use Rattle.device_laws.specs.Plain.{IsPlainEvent}
use Rattle.device_laws.specs.Replies.{RepliesCarryOpenedIds, ScannersSendNoSuccess}
use Rattle.device_laws.specs.RowIds.{ConnectionsKeepTheirIds}
use Rattle.device_laws.specs.SlotIds.{SlotsHaveTheIdsOfTheirSuccess}
use Rattle.device_laws.specs.TargetStreams.{StreamsComeWithEvents}
use Rattle.schedule_laws.specs.Ids.{is_drawn, any_opening, any_stream, AreDrawnApart, IdsAreDrawn}
use Rattle.schedule_laws.specs.Lemmas.Carrying.{frame_asks_plainly}
use Rattle.schedule_laws.specs.Lemmas.Drawing.{StepLaws}
use Rattle.schedule_laws.specs.Lemmas.Tests.{drawn_fits, set_cases}
use Rattle.device_laws.specs.Made.{Made, makes, adapter_makes}
use Rattle.device_laws.specs.Productions.{Production, numbered, produced_more}
use Rattle.schedule_laws.specs.Chronicle.{Opened, frame_opens}
use Rattle.schedule_laws.specs.Names.{IsScannerIn, IsEntry, ProductionHasEntry, IsAdapterIn, ProducerHasEntry}
use Rattle.schedule_laws.specs.Streams.{Ends, ends_of, Waiting, StreamsWait}
use Rattle.schedule_laws.specs.Lemmas.AdapterNames.{AdapterStep, adapter_named}
use Rattle.schedule_laws.specs.Lemmas.ApartIds.{IdsAreApart, adapter_apart}
use Rattle.schedule_laws.specs.Lemmas.AdapterProducers.{MadeByEntry, adapter_makes_named, producer_later, made_later}
use Rattle.schedule_laws.specs.Lemmas.Entries.{AdapterIsNamed, DeviceStays, asks_more, step_stays, Later, same_later, set_later, entry_later, production_later, Waits, waits_later, IsKnownTo, known_to_later, slots_later, TableIsNamed, table_later}
use Rattle.schedule_laws.specs.Lemmas.ScannerNames.{slots_named, streams_named as scanner_streams, frames_named, MadeHasEntry, makes_named, no_adapter}
use Rattle.schedule_laws.specs.Lemmas.StreamActs.{same_ends, FrameSent, EventArrives, OneEvent, StreamsOnly, AfterAnswer, answered_waits, streams_more}

-- ---- what holds

pub record NamedAt (w : World) (opened : List Opened) (produced : List Production) : Type 0 where
  pub entries : AllByRecursion (IsEntry w opened) opened
  pub apart : IdsAreApart opened
  pub tables : (device : ℕ) (t : DeviceTable) → slice_get w.tables device ≡ Some t → TableIsNamed w opened device t
  pub productions : AllByRecursion (ProductionHasEntry w opened) produced
  pub producers : AllByRecursion (ProducerHasEntry w opened) produced
  pub streams : StreamsWait (Waits w opened) w.streams

-- what is known of the steps of devices
pub record NameLaws : Type 0 where
  pub steps : StepLaws
  pub replies : RepliesCarryOpenedIds
  pub rows : ConnectionsKeepTheirIds
  pub slots : SlotsHaveTheIdsOfTheirSuccess
  pub requests : ScannersSendNoSuccess
  pub asks : ScannersAskOwnIds
  pub streams : StreamsComeWithEvents

-- ---- no event

pub streams_named : (w new : World) (opened : List Opened) (produced : List Production) → StreamsOnly (Waits w opened) w new → NamedAt w opened produced → NamedAt new opened produced
streams_named w new opened produced passes named =
    let later = same_later w new passes.tables passes.nodes passes.ends in
    subst (λ (l : List Opened). NamedAt new l produced) (append-nil opened) (record {
      entries = subst (AllByRecursion (IsEntry new (opened ++ []))) (sym (append-nil opened)) (all_more (IsEntry w opened) (IsEntry new (opened ++ [])) (λ e is. entry_later w new opened [] e later is) opened named.entries);
      apart = subst IdsAreApart (sym (append-nil opened)) named.apart;
      tables = λ device t at. table_later w new opened [] device t later (named.tables device t (subst (λ (ts : List DeviceTable). slice_get ts device ≡ Some t) passes.tables at));
      productions = all_more (ProductionHasEntry w opened) (ProductionHasEntry new (opened ++ [])) (λ p is. production_later w new opened [] p later is) produced named.productions;
      producers = all_more (ProducerHasEntry w opened) (ProducerHasEntry new (opened ++ [])) (λ p is. producer_later w new opened [] p later is) produced named.producers;
      streams = streams_more (Waits w opened) (Waits new (opened ++ [])) (λ giver taker bytes is. waits_later w new opened [] later giver taker bytes is) new.streams passes.waits;
    })

-- ---- the ends of streams stay

abbrev Whatever : Waiting
Whatever giver taker bytes = Unit {0}

free_frames : (ends : List Ends) (device : ℕ) (frames : List Frame) → AllByRecursion (FrameSent Whatever ends device) frames
free_frames ends device [] = tt
free_frames ends device (frame ∷ frames) = ((λ n e to at. record { forth = λ is. tt; back = λ is. tt }), free_frames ends device frames)

answered_ends : (Q : Waiting) (device : ℕ) (answer : Answer) (streams : List Stream) → StreamsWait Q streams → map ends_of (answered device answer streams) ≡ map ends_of streams
answered_ends Q device answer streams waits =
    let after = answered_waits Whatever device answer streams (free_frames (map ends_of streams) device answer.frames) (streams_more Q Whatever (λ giver taker bytes is. tt) streams waits) in
    after.ends

-- ---- what a device's event leaves

pub record EventLeaves (w new : World) (opened more : List Opened) (device : ℕ) (t u : DeviceTable) (happens : Event) (answer : Answer) : Type 0 where
  pub entries : AllByRecursion (IsEntry new (opened ++ more)) more
  pub apart : IdsAreApart (opened ++ more)
  pub table : TableIsNamed new (opened ++ more) device u
  pub frames : AllByRecursion (FrameSent (Waits new (opened ++ more)) (map ends_of w.streams) device) answer.frames
  pub made : IsScannerIn new device → AllByRecursion (MadeHasEntry (opened ++ more) device) (makes t happens)
  pub made_by : IsAdapterIn new device → AllByRecursion (MadeByEntry (opened ++ more) device) (makes t happens)

ids_fit : (tables : List DeviceTable) (rows : List Row) → ((device : ℕ) (t : DeviceTable) → slice_get tables device ≡ Some t → IsWholeDevice t) → AllByRecursion (RowIds (Passing (is_drawn tables)) (Passing any_opening)) rows → AllByRecursion (λ (row : Row). (row.o_t_id.0 < 2 ^ 32) × (row.t_o_id.0 < 2 ^ 32)) rows
ids_fit tables rows whole all =
    all_more (RowIds (Passing (is_drawn tables)) (Passing any_opening)) (λ (row : Row). (row.o_t_id.0 < 2 ^ 32) × (row.t_o_id.0 < 2 ^ 32))
    (λ row ids. (drawn_fits tables row.o_t_id.0 whole ids.o_t, drawn_fits tables row.t_o_id.0 whole ids.t_o)) rows all

pub adapter_result : (said : Result Next StepFault) (a : Answer) (u : AdapterTable) → as_adapter said ≡ Ok (a, Adapter u) → said ≡ Ok (a, u)
adapter_result (Err why) a u is = absurd (let e = is in cc)
adapter_result (Ok n) a u is = ok_of n a u is where
  ok_two : (x y : DeviceNext) → ◌≡◌ {A = Result DeviceNext StepFault} (Ok x) (Ok y) → x ≡ y
  ok_two x y e = cc

  inside : (x y : AdapterTable) → Adapter x ≡ Adapter y → x ≡ y
  inside x y e = cc

  ok_of : (n : Next) (a : Answer) (u : AdapterTable) → ◌≡◌ {A = Result DeviceNext StepFault} (Ok (n.0, Adapter n.1)) (Ok (a, Adapter u)) → ◌≡◌ {A = Result Next StepFault} (Ok n) (Ok (a, u))
  ok_of n a u e =
      let same = ok_two (n.0, Adapter n.1) (a, Adapter u) e in
      let first : n.0 ≡ a = ap (λ (p : DeviceNext). p.0) same in
      let second : n.1 ≡ u = inside n.1 u (ap (λ (p : DeviceNext). p.1) same) in
      ap (λ (x : Answer). ok_pair x n.1) first ∙ ap (ok_pair a) second
    where
      ok_pair : Answer → AdapterTable → Result Next StepFault
      ok_pair x y = Ok (x, y)

pub scanner_result : (said : Result ScannerNext StepFault) (a : Answer) (u : ScannerTable) → as_scanner said ≡ Ok (a, Scanner u) → said ≡ Ok (a, u)
scanner_result (Err why) a u is = absurd (let e = is in cc)
scanner_result (Ok n) a u is = ok_of n a u is where
  ok_two : (x y : DeviceNext) → ◌≡◌ {A = Result DeviceNext StepFault} (Ok x) (Ok y) → x ≡ y
  ok_two x y e = cc

  inside : (x y : ScannerTable) → Scanner x ≡ Scanner y → x ≡ y
  inside x y e = cc

  ok_of : (n : ScannerNext) (a : Answer) (u : ScannerTable) → ◌≡◌ {A = Result DeviceNext StepFault} (Ok (n.0, Scanner n.1)) (Ok (a, Scanner u)) → ◌≡◌ {A = Result ScannerNext StepFault} (Ok n) (Ok (a, u))
  ok_of n a u e =
      let same = ok_two (n.0, Scanner n.1) (a, Scanner u) e in
      let first : n.0 ≡ a = ap (λ (p : DeviceNext). p.0) same in
      let second : n.1 ≡ u = inside n.1 u (ap (λ (p : DeviceNext). p.1) same) in
      ap (λ (x : Answer). ok_pair x n.1) first ∙ ap (ok_pair a) second
    where
      ok_pair : Answer → ScannerTable → Result ScannerNext StepFault
      ok_pair x y = Ok (x, y)

never_scanner : (new : World) (device : ℕ) (u : AdapterTable) → slice_get new.tables device ≡ Some (Adapter u) → IsScannerIn new device → ⊥
never_scanner new device u at is = absurd (let e = sym is.is ∙ at in cc)

adapter_makes_later : (w : World) (opened more : List Opened) (device : ℕ) (t : AdapterTable) (happens : Event) → AdapterIsNamed w opened device t → AllByRecursion (MadeByEntry (opened ++ more) device) (adapter_makes t happens)
adapter_makes_later w opened more device t happens named =
    all_more (MadeByEntry opened device) (MadeByEntry (opened ++ more) device) (λ m is. made_later opened more device m is) (adapter_makes t happens) (adapter_makes_named w opened device t happens named.rows)

-- a frame that comes asks no object for the service of an opening
arrived_plain : (w : World) (opened : List Opened) (device : ℕ) (happens : Event) → EventArrives (Waits w opened) w device happens → IsPlainEvent any_stream happens
arrived_plain w opened device (event.Request peer bytes) comes = comes
arrived_plain w opened device (event.Frame n bytes) comes = λ over. let waits = comes.holds in frame_asks_plainly bytes waits.plain
arrived_plain w opened device other comes = tt

event_leaves : NameLaws → (w new : World) (opened : List Opened) (device : ℕ) (t u : DeviceTable) (happens : Event) (answer : Answer) → step t happens ≡ Ok (answer, u) → DeviceStays t u → slice_get w.tables device ≡ Some t → slice_get new.tables device ≡ Some u → Later w new → IdsAreDrawn w → AreDrawnApart new → AllByRecursion (IsEntry w opened) opened → IdsAreApart opened → TableIsNamed w opened device t → EventArrives (Waits w opened) w device happens → EventLeaves w new opened (frame_opens w device t happens u) device t u happens answer
unfolding step
event_leaves laws w new opened device (Adapter t) (Adapter u) happens answer is stays at after later drawn next_drawn entries apart named comes =
    let stepped = adapter_result (adapter_step t happens) answer u is in
    let whole = drawn.whole device (Adapter t) at in
    let next_ids = next_drawn.ids in
    let next_whole = next_ids.whole device (Adapter u) after in
    let info : AdapterStep w new opened device t u = record { at = at; after = after; later = later; entries = entries; named = named; drawn = whole.sound.ids_are_drawn; left = whole.sound.ids_are_left; next_drawn = next_whole.sound.ids_are_drawn; next_left = next_whole.sound.ids_are_left; fits = ids_fit new.tables u.rows next_ids.whole (next_ids.tables device (Adapter u) after); stays = stays; groups = whole.sound.producers.multicast } in
    let came = laws.rows t happens answer u stepped whole in
    let referred = drawn.plain device (Adapter t) at in
    let plain = laws.steps.plain any_stream (Adapter t) happens answer (Adapter u) is whole (arrived_plain w opened device happens comes) referred in
    let leaves = adapter_named w new opened device t u happens answer info comes referred came (laws.replies t happens answer u stepped whole) plain.1 in
    record { entries = leaves.entries; apart = adapter_apart w new opened device t u happens next_drawn info apart comes came; table = leaves.table; frames = leaves.frames; made = λ scanner. absurd (never_scanner new device u after scanner); made_by = λ adapter. adapter_makes_later w opened (frame_opens w device (Adapter t) happens (Adapter u)) device t happens named }
event_leaves laws w new opened device (Scanner t) (Scanner u) happens answer is stays at after later drawn next_drawn entries apart named comes =
    let stepped = scanner_result (scanner_step t happens) answer u is in
    let whole = drawn.whole device (Scanner t) at in
    let plain = laws.steps.plain any_stream (Scanner t) happens answer (Scanner u) is whole (arrived_plain w opened device happens comes) tt in
    subst (λ (l : List Opened). EventLeaves w new opened [] device (Scanner t) (Scanner u) happens answer) (append-nil opened)
    (record {
      entries = tt;
      apart = subst IdsAreApart (sym (append-nil opened)) apart;
      table = record {
        slots = slots_later w new opened [] device (indexed_slots u) later (slots_named w opened device t happens (indexed_slots u) named comes (laws.slots t happens answer u stepped whole));
        streams = all_more (IsKnownTo w device) (IsKnownTo new device) (λ s. known_to_later w new device s later) u.streams
            (scanner_streams w opened device t happens u.streams named.streams comes (laws.streams t happens answer u stepped whole));
      };
      frames = frames_named w new (opened ++ []) device u answer.frames after (laws.requests t happens answer u stepped whole)
          (all_more (FrameAsks t.ids) (FrameAsks u.ids) (λ frame asks request is. asks_more t.ids u.ids request stays.blocks (asks request is)) answer.frames (laws.asks t happens answer u stepped whole))
          plain.1;
      made = λ scanner. subst (λ (l : List Opened). AllByRecursion (MadeHasEntry l device) (makes (Scanner t) happens)) (sym (append-nil opened)) (makes_named w opened device t happens named);
      made_by = λ adapter. absurd (no_adapter new device u after adapter);
    })
event_leaves laws w new opened device (Adapter t) (Scanner u) happens answer is stays at after later drawn next_drawn entries apart named comes = absurd stays
event_leaves laws w new opened device (Scanner t) (Adapter u) happens answer is stays at after later drawn next_drawn entries apart named comes = absurd stays

-- ---- what is produced

produced_named : (new : World) (opened : List Opened) (device : ℕ) (ms : List Made) (sent : List Production) → (IsScannerIn new device → AllByRecursion (MadeHasEntry opened device) ms) → AllByRecursion (ProductionHasEntry new opened) sent → AllByRecursion (ProductionHasEntry new opened) (produced_more device sent ms)
produced_named new opened device [] sent made all = all
produced_named new opened device (m ∷ ms) sent made all =
    produced_named new opened device ms (sent ++ numbered device sent m ∷ []) (λ scanner. (made scanner).1)
    (all_both (ProductionHasEntry new opened) sent (numbered device sent m ∷ []) all ((λ scanner. (made scanner).0), tt))

producers_named : (new : World) (opened : List Opened) (device : ℕ) (ms : List Made) (sent : List Production) → (IsAdapterIn new device → AllByRecursion (MadeByEntry opened device) ms) → AllByRecursion (ProducerHasEntry new opened) sent → AllByRecursion (ProducerHasEntry new opened) (produced_more device sent ms)
producers_named new opened device [] sent made all = all
producers_named new opened device (m ∷ ms) sent made all =
    producers_named new opened device ms (sent ++ numbered device sent m ∷ []) (λ adapter. (made adapter).1)
    (all_both (ProducerHasEntry new opened) sent (numbered device sent m ∷ []) all ((λ adapter. (made adapter).0), tt))

-- ---- an event

table_at : (w new : World) (opened more : List Opened) (d : ℕ) (t u : DeviceTable) (device : ℕ) (v : DeviceTable) → Later w new → ((device : ℕ) (x : DeviceTable) → slice_get w.tables device ≡ Some x → TableIsNamed w opened device x) → TableIsNamed new (opened ++ more) d u → ((device ≡ d) × (v ≡ u)) ⊎ ((device ≢ d) × (slice_get w.tables device ≡ Some v)) → TableIsNamed new (opened ++ more) device v
table_at w new opened more d t u device v later named own (inl is) =
    subst (λ (x : DeviceTable). TableIsNamed new (opened ++ more) device x) (sym is.1) (subst (λ (n : ℕ). TableIsNamed new (opened ++ more) n u) (sym is.0) own)
table_at w new opened more d t u device v later named own (inr other) = table_later w new opened more device v later (named device v other.1)

-- the world after an event is a later one
pub event_later : StepLaws → (Q : Waiting) (w new : World) (reported : ReportedEvent) → OneEvent Q w reported new → Later w new
event_later laws Q w new reported m =
    let stays = step_stays laws m.before reported.event reported.answer m.after m.stepped in
    let tables : new.tables ≡ set w.tables reported.device m.after = ap (λ (x : World). x.tables) m.leaves in
    let streams : new.streams ≡ answered reported.device reported.answer m.streams = ap (λ (x : World). x.streams) m.leaves in
    let ends : map ends_of new.streams ≡ map ends_of w.streams = ap (map ends_of) streams ∙ answered_ends Q reported.device reported.answer m.streams m.waits ∙ m.ends in
    set_later w new reported.device m.before m.after m.is stays tables (ap (λ (x : World). x.nodes) m.leaves) (same_ends w.streams new.streams ends)

pub event_named : NameLaws → (w new : World) (opened : List Opened) (produced : List Production) (reported : ReportedEvent) (m : OneEvent (Waits w opened) w reported new) → IdsAreDrawn w → AreDrawnApart new → NamedAt w opened produced → NamedAt new (opened ++ frame_opens w reported.device m.before reported.event m.after) (produced_more reported.device produced (makes m.before reported.event))
event_named laws w new opened produced reported m drawn next_drawn named =
    let d = reported.device in
    let t = m.before in
    let u = m.after in
    let more = frame_opens w reported.device m.before reported.event m.after in
    let stays = step_stays laws.steps m.before reported.event reported.answer m.after m.stepped in
    let tables : new.tables ≡ set w.tables d u = ap (λ (x : World). x.tables) m.leaves in
    let streams : new.streams ≡ answered d reported.answer m.streams = ap (λ (x : World). x.streams) m.leaves in
    let later = event_later laws.steps (Waits w opened) w new reported m in
    let after : slice_get new.tables d ≡ Some u = ap (λ (ts : List DeviceTable). slice_get ts d) tables ∙ set_own w.tables d t u m.is in
    let leaves = event_leaves laws w new opened d t u reported.event reported.answer m.stepped stays m.is after later drawn next_drawn named.entries named.apart (named.tables d t m.is) m.event in
    let waits = streams_more (Waits w opened) (Waits new (opened ++ more)) (λ giver taker bytes is. waits_later w new opened more later giver taker bytes is) m.streams m.waits in
    let frames : AllByRecursion (FrameSent (Waits new (opened ++ more)) (map ends_of m.streams) d) reported.answer.frames = subst (λ (es : List Ends). AllByRecursion (FrameSent (Waits new (opened ++ more)) es d) reported.answer.frames) (sym m.ends) leaves.frames in
    let sent : AfterAnswer (Waits new (opened ++ more)) m.streams (answered d reported.answer m.streams) = answered_waits (Waits new (opened ++ more)) d reported.answer m.streams frames waits in
    record {
      entries = all_both (IsEntry new (opened ++ more)) opened more (all_more (IsEntry w opened) (IsEntry new (opened ++ more)) (λ e is. entry_later w new opened more e later is) opened named.entries) leaves.entries;
      apart = leaves.apart;
      tables = λ device v at. table_at w new opened more d t u device v later named.tables leaves.table (set_cases w.tables d device t u v m.is (ap (λ (ts : List DeviceTable). slice_get ts device) (sym tables) ∙ at));
      productions = produced_named new (opened ++ more) d (makes t reported.event) produced leaves.made
          (all_more (ProductionHasEntry w opened) (ProductionHasEntry new (opened ++ more)) (λ p is. production_later w new opened more p later is) produced named.productions);
      producers = producers_named new (opened ++ more) d (makes t reported.event) produced leaves.made_by
          (all_more (ProducerHasEntry w opened) (ProducerHasEntry new (opened ++ more)) (λ p is. producer_later w new opened more p later is) produced named.producers);
      streams = subst (StreamsWait (Waits new (opened ++ more))) (sym streams) sent.waits;
    }
