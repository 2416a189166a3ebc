-- Over every schedule a connection joins the points of its slot.
use Rattle.std.proofs.Common.{◌≡◌, ◌≢◌, ◌⊎◌, inl, inr, ℕ, zero, suc, List, [], ◌∷◌, ◌++◌, find, map, set, slice_get, Option, Some, None, Result, Ok, Err, IfOk, refl, sym, ◌∙◌, ap, subst, arith}
use Rattle.std.specs.List.{AllByRecursion, Contains}
use Rattle.std.proofs.lemmas.List.Elements.{Contains-append_cases}
use Rattle.std.proofs.lemmas.Option.{same_Some}
use Rattle.schedule_laws.specs.Lemmas.Acts.{WhereApart, more_acts, nothing_yet}
use Rattle.device_laws.specs.Lemmas.Stepping.{device_stepped, table_is}
use Rattle.device_laws.specs.Lemmas.Folds.{scanner_is}
use Rattle.base_lemmas.specs.Lists.{set_own, found_passes}
use Rattle.cip_encap.specs.Message.{MessageFields}
use Rattle.cip_encap.specs.declared.message.EncapFault.{EncapFault}
use Rattle.cip_encap.specs.Reading.{message_reading}
use Rattle.cip_encap.specs.ReadsBack.{ItemsReadBack}
use Rattle.cip_epath.specs.ReadsBack.{PathReadsBack}
use Rattle.cip_events.specs.declared.event.Answer.{Answer}
use Rattle.cip_events.specs.declared.event.Event.{Event}
use Rattle.cip_events.specs.declared.event.Event.TheVariants as event
use Rattle.cip_events.specs.declared.event.Frame.{Frame}
use Rattle.cip_fwdopen.specs.Open.{OpenFields}
use Rattle.cip_types.specs.declared.names.Node.{Node}
use Rattle.adapter_table.specs.Intervals.{whole_request}
use Rattle.adapter_table.specs.declared.profile.Profile.{Profile}
use Rattle.adapter_table.specs.declared.table.AdapterTable.{AdapterTable}
use Rattle.adapter_table.specs.Checks.{Admitted, admission}
use Rattle.adapter_table.specs.Connections.{Row}
use Rattle.adapter_table.specs.Opening.{opened_row}
use Rattle.adapter_table.specs.Sound.{IdsAreDrawn as RowIdsAreDrawn}
use Rattle.adapter_table.specs.Step.{adapter_step}
use Rattle.scanner_table.specs.declared.profile.ScannerProfile.{ScannerProfile}
use Rattle.scanner_table.specs.declared.table.ScannerTable.{ScannerTable}
use Rattle.device_laws.specs.Newest.{WholeTablesNumberOpenings}
use Rattle.cip_tables.specs.declared.table.Config.{Config}
use Rattle.cip_tables.specs.declared.table.Config.TheVariants as config
use Rattle.cip_tables.specs.declared.table.DeviceTable.{DeviceTable}
use Rattle.cip_tables.specs.declared.table.DeviceTable.TheVariants.{Adapter, Scanner}
use Rattle.cip_tables.specs.Step.{opening_table, step}
use Rattle.segment_world.specs.Transit.Streams.{QueueItem, Opening, Queued, Ending, Stream, answered}
use Rattle.segment_world.specs.declared.act.Act.{Act}
use Rattle.segment_world.specs.declared.act.ActFault.{ActFault}
use Rattle.segment_world.specs.Configs.{opening_world}
use Rattle.segment_world.specs.World.{World, ReportedEvent, Happened, happens}
use Rattle.answer_sizes.specs.Sizes.{AnswersAreSmall}
use Rattle.device_laws.specs.Lemmas.Lists.{all_more}
use Rattle.device_laws.specs.Frames.{IsOpening}
use Rattle.device_laws.specs.RowIds.{RowCame}
use Rattle.device_laws.specs.Lemmas.RowIds.{all_contained}
use Rattle.device_laws.specs.Made.{AnswersSendWhatIsMade}
use Rattle.device_laws.specs.Productions.{End, end_at, Production}
use Rattle.schedule_laws.specs.Ids.{IdsAreDrawn, SchedulesKeepIdsDrawn, OpeningWorldsHaveIdsDrawn}
use Rattle.schedule_laws.specs.Lemmas.Tests.{set_cases}
use Rattle.schedule_laws.specs.Chronicle.{Chronicle, Opened, opens_row, frame_opens, after_act, with_event_at, recorded, blank}
use Rattle.schedule_laws.specs.Names.{IsEntry, HasEntry}
use Rattle.schedule_laws.specs.Order.{IsChronicle}
use Rattle.schedule_laws.specs.Streams.{Ends, ends_of, Waiting, ItemWaits, StreamsWait}
use Rattle.schedule_laws.specs.Lemmas.AdapterNames.{Opens, frame_opening}
use Rattle.schedule_laws.specs.Lemmas.Entries.{DeviceStays, step_stays, Waits}
use Rattle.schedule_laws.specs.Lemmas.Found.{all_contains, find_more, found_holds}
use Rattle.schedule_laws.specs.Lemmas.NameActs.{NamedAt, NameLaws, adapter_result}
use Rattle.schedule_laws.specs.Lemmas.OpeningActs.{OpeningsIn, schedule_openings, after_is}
use Rattle.schedule_laws.specs.Lemmas.ProducedActs.{ApartActsKeep, apart_keeps, chronicles_keep, drawn_on}
use Rattle.schedule_laws.specs.Lemmas.StreamActs.{FrameSent, EventArrives, OneEvent, StreamsOnly, ActCases, act_acts, answered_waits, streams_more}
use Rattle.device_laws.specs.Lemmas.Books.{end_is}
use Rattle.device_laws.specs.Lemmas.OpenedRows.{MessageMakes}
use Rattle.schedule_laws.specs.MadeOnce.{AnIdOpensOneConnection}
use Rattle.schedule_laws.specs.JoinedPoints.{HasPath, HasPaths, HavePaths, SchedulesJoinPoints}
use Rattle.schedule_laws.proofs.Admitting.{joins, joins_on, opened_requested, as_read}
use Rattle.schedule_laws.proofs.Asking.{OpeningsCome}
use Rattle.schedule_laws.proofs.ConnectionRows.{EventMakes, Lasts, step_rows}
use Rattle.schedule_laws.proofs.Requested.{NamesSlots, FrameAsks, IsLater, JoinsSlots, names_later, joins_later, same_later, step_asks, step_later}
use Rattle.schedule_laws.proofs.Later.{adapter_same as adapter_is}

-- what is known of the steps of devices, and of texts
pub record JoinLaws : Type 0 where
  pub sends : AnswersSendWhatIsMade
  pub keep : SchedulesKeepIdsDrawn
  pub opens : OpeningWorldsHaveIdsDrawn
  pub once : AnIdOpensOneConnection
  pub names : NameLaws
  pub paths : PathReadsBack
  pub items : ItemsReadBack
  pub small : AnswersAreSmall
  pub numbered : WholeTablesNumberOpenings

-- ---- two things of what waits

abbrev Both : Waiting → Waiting → Waiting
Both Q R giver taker bytes = Q giver taker bytes × R giver taker bytes

items_both : (Q R : Waiting) (giver taker : ℕ) (queue : List QueueItem) → AllByRecursion (ItemWaits Q giver taker) queue → AllByRecursion (ItemWaits R giver taker) queue → AllByRecursion (ItemWaits (Both Q R) giver taker) queue
items_both Q R giver taker [] one two = tt
items_both Q R giver taker (Opening ∷ queue) one two = (tt, items_both Q R giver taker queue one.1 two.1)
items_both Q R giver taker (Queued bytes ∷ queue) one two = ((one.0, two.0), items_both Q R giver taker queue one.1 two.1)
items_both Q R giver taker (Ending ∷ queue) one two = (tt, items_both Q R giver taker queue one.1 two.1)

streams_both : (Q R : Waiting) (streams : List Stream) → StreamsWait Q streams → StreamsWait R streams → StreamsWait (Both Q R) streams
streams_both Q R [] one two = tt
streams_both Q R (s ∷ streams) one two =
    let first = one.0 in
    let second = two.0 in (
      record { apart = first.apart; forth = items_both Q R s.from s.to s.forth.queue first.forth second.forth; back = items_both Q R s.to s.from s.back.queue first.back second.back },
      streams_both Q R streams one.1 two.1,
    )

all_two : {X : Type 0} (P Q R : X → Type 0) → ((x : X) → P x → Q x → R x) → (xs : List X) → AllByRecursion P xs → AllByRecursion Q xs → AllByRecursion R xs
all_two P Q R makes [] one two = tt
all_two P Q R makes (x ∷ xs) one two = (makes x one.0 two.0, all_two P Q R makes xs one.1 two.1)

-- ---- what holds at each moment

-- the requests to open that wait ask for the points of their slots
abbrev Asks : World → Waiting
Asks w giver taker bytes = (s : ScannerTable) → slice_get w.tables giver ≡ Some (Scanner s) → OpeningsCome (NamesSlots s) bytes

-- the connection joins the points of the slot that has the entry's number
abbrev RowJoins : World → List Opened → ℕ → Profile → Row → Type 0
RowJoins w opened device profile row =
    (e : Opened) → find (opens_row (end_at device row.opening)) opened ≡ Some e → (s : ScannerTable) → slice_get w.tables e.slot.device ≡ Some (Scanner s) → JoinsSlots s e.slot.number profile row

record JoinsAt (w : World) (opened : List Opened) : Type 0 where
  paths : (device : ℕ) (s : ScannerTable) → slice_get w.tables device ≡ Some (Scanner s) → AllByRecursion HasPath s.profile.slots
  rows : (device : ℕ) (t : AdapterTable) → slice_get w.tables device ≡ Some (Adapter t) → AllByRecursion (RowJoins w opened device t.profile) t.rows
  streams : StreamsWait (Asks w) w.streams

-- ---- a world later on

-- the scanner was there, and its table is a later one
record WasScanner (w : World) (device : ℕ) (u : ScannerTable) : Type 0 where
  table : ScannerTable
  there : slice_get w.tables device ≡ Some (Scanner table)
  later : IsLater table u
  profile : u.profile ≡ table.profile

abbrev AreLater : World → World → Type 0
AreLater w new = (device : ℕ) (u : ScannerTable) → slice_get new.tables device ≡ Some (Scanner u) → WasScanner w device u

same_world : (w new : World) → new.tables ≡ w.tables → AreLater w new
same_world w new tables device u at = record {
  table = u;
  there = ap (λ (ts : List DeviceTable). slice_get ts device) (sym tables) ∙ at;
  later = same_later u;
  profile = refl;
}

adapter_stepped : (t u : AdapterTable) (happened : Event) (answer : Answer) → step (Adapter t) happened ≡ Ok (answer, Adapter u) → adapter_step t happened ≡ Ok (answer, u)
unfolding step
adapter_stepped t u happened answer is = adapter_result (adapter_step t happened) answer u is

own_scanner : NameLaws → (w : World) (device : ℕ) (t : DeviceTable) (u : ScannerTable) (happened : Event) (answer : Answer) → slice_get w.tables device ≡ Some t → step t happened ≡ Ok (answer, Scanner u) → DeviceStays t (Scanner u) → WasScanner w device u
own_scanner laws w device (Adapter t) u happened answer at is stays = absurd stays
own_scanner laws w device (Scanner t) u happened answer at is stays =
    record { table = t; there = at; later = step_later t happened answer u (device_stepped t u happened answer is); profile = stays.profile }

scanner_by : NameLaws → (w : World) (d : ℕ) (t u : DeviceTable) (happened : Event) (answer : Answer) (device : ℕ) (x : ScannerTable) → slice_get w.tables d ≡ Some t → step t happened ≡ Ok (answer, u) → ((device ≡ d) × (Scanner x ≡ u)) ⊎ ((device ≢ d) × (slice_get w.tables device ≡ Some (Scanner x))) → WasScanner w device x
scanner_by laws w d t u happened answer device x at is (inl own) =
    let stepped : step t happened ≡ Ok (answer, Scanner x) = subst (λ (v : DeviceTable). step t happened ≡ Ok (answer, v)) (sym own.1) is in
    own_scanner laws w device t x happened answer (ap (slice_get w.tables) own.0 ∙ at) stepped (step_stays laws.steps t happened answer (Scanner x) stepped)
scanner_by laws w d t u happened answer device x at is (inr other) = record { table = x; there = other.1; later = same_later x; profile = refl }

-- the tables after an event of a device
event_later : NameLaws → (w new : World) (d : ℕ) (t u : DeviceTable) (happened : Event) (answer : Answer) → slice_get w.tables d ≡ Some t → step t happened ≡ Ok (answer, u) → new.tables ≡ set w.tables d u → AreLater w new
event_later laws w new d t u happened answer at is tables device x there =
    scanner_by laws w d t u happened answer device x at is (set_cases w.tables d device t u (Scanner x) at (ap (λ (ts : List DeviceTable). slice_get ts device) (sym tables) ∙ there))

asks_on : (w new : World) → AreLater w new → (giver taker : ℕ) (bytes : List ℕ) → Asks w giver taker bytes → Asks new giver taker bytes
asks_on w new later giver taker bytes asks s at request is =
    let was = later giver s at in
    names_later was.table s is.message.context request was.later (asks was.table was.there request is)

row_on : (w new : World) (opened more : List Opened) (device : ℕ) (profile : Profile) (row : Row) → AreLater w new → HasEntry w opened device row → RowJoins w opened device profile row → RowJoins new (opened ++ more) device profile row
row_on w new opened more device profile row later has was e found s at =
    let same : e ≡ has.entry = same_Some e has.entry (sym found ∙ find_more (opens_row (end_at device row.opening)) opened more has.entry has.found) in
    let old = later e.slot.device s at in
    joins_later old.table s e.slot.number profile row old.later (was e (has.found ∙ ap (λ (x : Opened). Some x) (sym same)) old.table old.there)

rows_on : (w new : World) (opened more : List Opened) (device : ℕ) (profile : Profile) (rows : List Row) → AreLater w new → AllByRecursion (HasEntry w opened device) rows → AllByRecursion (RowJoins w opened device profile) rows → AllByRecursion (RowJoins new (opened ++ more) device profile) rows
rows_on w new opened more device profile rows later have were =
    all_two (HasEntry w opened device) (RowJoins w opened device profile) (RowJoins new (opened ++ more) device profile) (λ row has was. row_on w new opened more device profile row later has was) rows have were

-- ---- an event of an adapter

-- what is known of the step
record AdapterEvent (w new : World) (opened : List Opened) (device : ℕ) (t u : AdapterTable) : Type 0 where
  at : slice_get w.tables device ≡ Some (Adapter t)
  later : AreLater w new
  entries : AllByRecursion (IsEntry w opened) opened
  drawn : RowIdsAreDrawn t.ids t.next_id t.rows
  profile : u.profile ≡ t.profile

adapter_same : (a b : AdapterTable) → Some (Adapter a) ≡ Some (Adapter b) → a ≡ b
adapter_same a b e = cc

-- no entry has the number of the next connection
no_entry : (w : World) (opened : List Opened) (device : ℕ) (t : AdapterTable) (e : Opened) → slice_get w.tables device ≡ Some (Adapter t) → IsEntry w opened e → e.row ≡ end_at device t.next_id → ⊥
no_entry w opened device t e at is same =
    let one : e.row.device ≡ device = ap (λ (x : End). x.device) same in
    let two : e.row.number ≡ t.next_id = ap (λ (x : End). x.number) same in
    let table : is.table ≡ t = adapter_same is.table t (sym is.there ∙ ap (slice_get w.tables) one ∙ at) in
    let next : is.table.next_id ≡ t.next_id = ap (λ (x : AdapterTable). x.next_id) table in
    absurd (omega (arith, is.drawn, two, next))

-- the entry of a frame's connection is of the opening that the frame's message names
record IsNewEntry (bytes : List ℕ) (other : ℕ) (e : Opened) : Type 0 where
  message : MessageFields
  reads : message_reading bytes ≡ Ok message
  slot_is : e.slot ≡ end_at other message.context

new_among : (w : World) (device : ℕ) (t u : AdapterTable) (n : ℕ) (bytes : List ℕ) (other : ℕ) (more : List Opened) (e : Opened) → Opens w device t u n bytes other more → Contains more e → IsNewEntry bytes other e
new_among w device t u n bytes other more e (inl none) there = absurd (all_contains (λ (x : Opened). ⊥) more e (subst (AllByRecursion (λ (x : Opened). ⊥)) (sym none.none) tt) there)
new_among w device t u n bytes other more e (inr one) there =
    all_contains (IsNewEntry bytes other) more e
    (subst (AllByRecursion (IsNewEntry bytes other)) (sym one.more_is) (record { message = one.message; reads = one.reads; slot_is = one.slot_is }, tt)) there

new_by : (w : World) (opened more : List Opened) (device : ℕ) (t u : AdapterTable) (n : ℕ) (bytes : List ℕ) (other : ℕ) (e : Opened) → slice_get w.tables device ≡ Some (Adapter t) → AllByRecursion (IsEntry w opened) opened → Opens w device t u n bytes other more → e.row ≡ end_at device t.next_id → Contains opened e ⊎ Contains more e → IsNewEntry bytes other e
new_by w opened more device t u n bytes other e at entries opens same (inl old) = absurd (no_entry w opened device t e at (all_contains (IsEntry w opened) opened e entries old) same)
new_by w opened more device t u n bytes other e at entries opens same (inr new) = new_among w device t u n bytes other more e opens new

message_same : (a b : MessageFields) → ◌≡◌ {A = Result MessageFields EncapFault} (Ok a) (Ok b) → a ≡ b
message_same a b e = cc

opened_number : (t : AdapterTable) (peer : Node) (request : OpenFields) (admitted : Admitted) → (opened_row t peer request admitted).opening ≡ t.next_id
unfolding opened_row
opened_number t peer request admitted = refl

-- the connection that a frame opens
new_joins : (w new : World) (opened more : List Opened) (device : ℕ) (t u : AdapterTable) (n : ℕ) (bytes : List ℕ) (other : ℕ) (peer : Node) (request : OpenFields) (admitted : Admitted) → AdapterEvent w new opened device t u → Opens w device t u n bytes other more → Asks w other device bytes → IsOpening bytes request → admission t (whole_request t.profile.description request) ≡ Ok admitted → RowJoins new (opened ++ more) device u.profile (opened_row t peer (whole_request t.profile.description request) admitted)
new_joins w new opened more device t u n bytes other peer request admitted known opens asks is admits e found s at =
    let row = opened_row t peer (whole_request t.profile.description request) admitted in
    let number : row.opening ≡ t.next_id = opened_number t peer (whole_request t.profile.description request) admitted in
    let passes = found_passes (opens_row (end_at device row.opening)) (opened ++ more) e found in
    let same : e.row ≡ end_at device t.next_id = end_is (end_at device row.opening) e.row passes ∙ ap (end_at device) number in
    let there : Contains (opened ++ more) e = found_holds (Contains (opened ++ more)) (opens_row (end_at device row.opening)) (opened ++ more) e (all_contained (opened ++ more) [] (opened ++ more) refl) found in
    let entry = new_by w opened more device t u n bytes other e known.at known.entries opens same (Contains-append_cases opened more e there) in
    let one : e.slot.device ≡ other = ap (λ (x : End). x.device) entry.slot_is in
    let context : is.message.context ≡ e.slot.number = ap (λ (m : MessageFields). m.context) (message_same is.message entry.message (sym is.reads ∙ entry.reads)) ∙ sym (ap (λ (x : End). x.number) entry.slot_is) in
    let was = known.later e.slot.device s at in
    let names_slots : NamesSlots was.table e.slot.number request = subst (λ (k : ℕ). NamesSlots was.table k request) context (asks was.table (ap (slice_get w.tables) (sym one) ∙ was.there) request is) in
    let now : NamesSlots s e.slot.number request = names_later was.table s e.slot.number request was.later names_slots in
    let joined : JoinsSlots s e.slot.number t.profile (opened_row t peer (whole_request t.profile.description request) admitted) = record {
      last = now.last;
      slots = λ place at_place has. joins place.config request t.profile (opened_row t peer (whole_request t.profile.description request) admitted) (now.slots place at_place has) (as_read t.profile.description request t.profile (opened_row t peer (whole_request t.profile.description request) admitted) (opened_requested t peer (whole_request t.profile.description request) admitted admits));
    } in
    subst (λ (p : Profile). JoinsSlots s e.slot.number p (opened_row t peer (whole_request t.profile.description request) admitted)) (sym known.profile) joined

row_lasts : (w : World) (opened : List Opened) (device : ℕ) (profile : Profile) → Lasts (RowJoins w opened device profile)
row_lasts w opened device profile old row one was e found s at =
    let joined = was e (ap (λ (n : ℕ). find (opens_row (end_at device n)) opened) (sym one.opening) ∙ found) s at in
    record { last = joined.last; slots = λ place there has. joins_on place.config profile old row one (joined.slots place there has) }

frame_makes : (w new : World) (opened more : List Opened) (device : ℕ) (t u : AdapterTable) (n : ℕ) (bytes : List ℕ) (other : ℕ) → AdapterEvent w new opened device t u → Opens w device t u n bytes other more → Asks w other device bytes → MessageMakes (RowJoins new (opened ++ more) device u.profile) t (message_reading bytes)
frame_makes w new opened more device t u n bytes other known opens asks m reads packet packet_is large request requested peer admitted admits =
    new_joins w new opened more device t u n bytes other peer request admitted known opens asks
    (record { message = m; reads = reads; packet = packet; packet_is = packet_is; large = large; opens = requested }) admits

event_makes : (w new : World) (opened : List Opened) (device : ℕ) (t u : AdapterTable) (happened : Event) → AdapterEvent w new opened device t u → AllByRecursion (RowCame t u happened) u.rows → EventArrives (Both (Waits w opened) (Asks w)) w device happened → EventMakes (RowJoins new (opened ++ frame_opens w device (Adapter t) happened (Adapter u)) device u.profile) t happened
event_makes w new opened device t u (event.Request peer bytes) known came arrives = arrives
event_makes w new opened device t u (event.Frame n bytes) known came arrives =
    let opens = frame_opening w device t u n bytes arrives.other arrives.over known.drawn came in
    let holds = arrives.holds in
    frame_makes w new opened (frame_opens w device (Adapter t) (event.Frame n bytes) (Adapter u)) device t u n bytes arrives.other known opens holds.1
event_makes w new opened device t u other known came arrives = tt

-- the connections of the adapter after its event
own_rows : NameLaws → (w new : World) (opened : List Opened) (produced : List Production) (device : ℕ) (t : DeviceTable) (u : AdapterTable) (happened : Event) (answer : Answer) → slice_get w.tables device ≡ Some t → step t happened ≡ Ok (answer, Adapter u) → DeviceStays t (Adapter u) → AreLater w new → IdsAreDrawn w → NamedAt w opened produced → JoinsAt w opened → EventArrives (Both (Waits w opened) (Asks w)) w device happened → AllByRecursion (RowJoins new (opened ++ frame_opens w device t happened (Adapter u)) device u.profile) u.rows
own_rows laws w new opened produced device (Scanner t) u happened answer at is stays later drawn named joined arrives = absurd stays
own_rows laws w new opened produced device (Adapter t) u happened answer at is stays later drawn named joined arrives =
    let stepped = adapter_stepped t u happened answer is in
    let whole = drawn.whole device (Adapter t) at in
    let sound = whole.sound in
    let known : AdapterEvent w new opened device t u = record { at = at; later = later; entries = named.entries; drawn = sound.ids_are_drawn; profile = stays.profile } in
    let came = laws.rows t happened answer u stepped whole in
    let more = frame_opens w device (Adapter t) happened (Adapter u) in
    let table = named.tables device (Adapter t) at in
    let old : AllByRecursion (RowJoins new (opened ++ frame_opens w device (Adapter t) happened (Adapter u)) device u.profile) t.rows =
    subst (λ (p : Profile). AllByRecursion (RowJoins new (opened ++ frame_opens w device (Adapter t) happened (Adapter u)) device p) t.rows) (sym stays.profile)
    (rows_on w new opened (frame_opens w device (Adapter t) happened (Adapter u)) device t.profile t.rows later table.rows (joined.rows device t at)) in
    step_rows (RowJoins new (opened ++ frame_opens w device (Adapter t) happened (Adapter u)) device u.profile) (row_lasts new (opened ++ frame_opens w device (Adapter t) happened (Adapter u)) device u.profile) t happened (answer, u) stepped
    (event_makes w new opened device t u happened known came.rows arrives) old

rows_by : NameLaws → (w new : World) (opened : List Opened) (produced : List Production) (d : ℕ) (t u : DeviceTable) (happened : Event) (answer : Answer) (device : ℕ) (v : AdapterTable) → slice_get w.tables d ≡ Some t → step t happened ≡ Ok (answer, u) → AreLater w new → IdsAreDrawn w → NamedAt w opened produced → JoinsAt w opened → EventArrives (Both (Waits w opened) (Asks w)) w d happened → ((device ≡ d) × (Adapter v ≡ u)) ⊎ ((device ≢ d) × (slice_get w.tables device ≡ Some (Adapter v))) → AllByRecursion (RowJoins new (opened ++ frame_opens w d t happened u) device v.profile) v.rows
rows_by laws w new opened produced d t u happened answer device v at is later drawn named joined arrives (inl own) =
    let stepped : step t happened ≡ Ok (answer, Adapter v) = subst (λ (x : DeviceTable). step t happened ≡ Ok (answer, x)) (sym own.1) is in
    let rows = own_rows laws w new opened produced d t v happened answer at stepped (step_stays laws.steps t happened answer (Adapter v) stepped) later drawn named joined arrives in
    subst (λ (n : ℕ). AllByRecursion (RowJoins new (opened ++ frame_opens w d t happened u) n v.profile) v.rows) (sym own.0)
    (subst (λ (x : DeviceTable). AllByRecursion (RowJoins new (opened ++ frame_opens w d t happened x) d v.profile) v.rows) own.1 rows)
rows_by laws w new opened produced d t u happened answer device v at is later drawn named joined arrives (inr other) =
    let table = named.tables device (Adapter v) other.1 in
    rows_on w new opened (frame_opens w d t happened u) device v.profile v.rows later table.rows (joined.rows device v other.1)

-- ---- the frames of an event

-- a frame of the device asks so, if the device is a scanner
abbrev DeviceAsks : World → ℕ → Frame → Type 0
DeviceAsks w device frame = (s : ScannerTable) → slice_get w.tables device ≡ Some (Scanner s) → OpeningsCome (NamesSlots s) frame.bytes

frame_sent : (w : World) (ends : List Ends) (device : ℕ) (frame : Frame) → DeviceAsks w device frame → FrameSent (Asks w) ends device frame
frame_sent w ends device frame asks n e to at = record {
  forth = λ from s there. asks s (ap (slice_get w.tables) (sym from) ∙ there);
  back = λ is s there. asks s (ap (slice_get w.tables) (sym is) ∙ there);
}

adapter_asks : (w : World) (device : ℕ) (u : AdapterTable) (frames : List Frame) → slice_get w.tables device ≡ Some (Adapter u) → AllByRecursion (DeviceAsks w device) frames
adapter_asks w device u [] at = tt
adapter_asks w device u (frame ∷ frames) at = ((λ s there. absurd (let e = sym there ∙ at in cc)), adapter_asks w device u frames at)

-- the frames of a scanner's step
stepped_asks : JoinLaws → (w new : World) (device : ℕ) (t u : ScannerTable) (happened : Event) (answer : Answer) → slice_get w.tables device ≡ Some (Scanner t) → step (Scanner t) happened ≡ Ok (answer, Scanner u) → slice_get new.tables device ≡ Some (Scanner u) → u.profile ≡ t.profile → IdsAreDrawn w → IdsAreDrawn new → AllByRecursion HasPath t.profile.slots → AllByRecursion (FrameAsks u) answer.frames
stepped_asks laws w new device t u happened answer at is after profile drawn next_drawn paths =
    let whole = drawn.whole device (Scanner t) at in
    let next_whole = next_drawn.whole device (Scanner u) after in
    let table = next_whole.table in
    let small = laws.small (Scanner t) happened answer (Scanner u) whole is in
    step_asks laws.paths laws.items t happened answer u (device_stepped t u happened answer is) (laws.numbered t whole.table)
    (record { paths = subst (λ (p : ScannerProfile). AllByRecursion HasPath p.slots) (sym profile) paths; faultless = table.faultless; few = table.requests }) small.short_frames

device_asks : JoinLaws → (w new : World) (device : ℕ) (t u : DeviceTable) (happened : Event) (answer : Answer) → slice_get w.tables device ≡ Some t → step t happened ≡ Ok (answer, u) → DeviceStays t u → slice_get new.tables device ≡ Some u → IdsAreDrawn w → IdsAreDrawn new → ((s : ScannerTable) → slice_get w.tables device ≡ Some (Scanner s) → AllByRecursion HasPath s.profile.slots) → AllByRecursion (DeviceAsks new device) answer.frames
device_asks laws w new device t (Adapter u) happened answer at is stays after drawn next_drawn paths = adapter_asks new device u answer.frames after
device_asks laws w new device (Adapter t) (Scanner u) happened answer at is stays after drawn next_drawn paths = absurd stays
device_asks laws w new device (Scanner t) (Scanner u) happened answer at is stays after drawn next_drawn paths =
    all_more (FrameAsks u) (DeviceAsks new device) (λ frame so s there. subst (λ (x : ScannerTable). OpeningsCome (NamesSlots x) frame.bytes) (table_is u s (sym after ∙ there)) so) answer.frames
    (stepped_asks laws w new device t u happened answer at is after stays.profile drawn next_drawn (paths t at))

-- ---- an act

streams_joined : (w new : World) (opened : List Opened) → StreamsOnly (Both (Waits w opened) (Asks w)) w new → JoinsAt w opened → JoinsAt new opened
streams_joined w new opened passes joined =
    let later = same_world w new passes.tables in
    record {
      paths = λ device s at. joined.paths device s (ap (λ (ts : List DeviceTable). slice_get ts device) (sym passes.tables) ∙ at);
      rows = λ device t at.
          all_more (RowJoins w opened device t.profile) (RowJoins new opened device t.profile)
          (λ row was e found s there. was e found s (ap (λ (ts : List DeviceTable). slice_get ts e.slot.device) (sym passes.tables) ∙ there)) t.rows
          (joined.rows device t (ap (λ (ts : List DeviceTable). slice_get ts device) (sym passes.tables) ∙ at));
      streams = streams_more (Both (Waits w opened) (Asks w)) (Asks new) (λ giver taker bytes is. asks_on w new later giver taker bytes is.1) new.streams passes.waits;
    }

event_joined : JoinLaws → (w new : World) (opened : List Opened) (produced : List Production) (reported : ReportedEvent) (m : OneEvent (Both (Waits w opened) (Asks w)) w reported new) → IdsAreDrawn w → IdsAreDrawn new → NamedAt w opened produced → JoinsAt w opened → JoinsAt new (opened ++ frame_opens w reported.device m.before reported.event m.after)
event_joined laws w new opened produced reported m drawn next_drawn named joined =
    let d = reported.device in
    let names = laws.names in
    let tables : new.tables ≡ set w.tables reported.device m.after = ap (λ (x : World). x.tables) m.leaves in
    let streams : new.streams ≡ answered reported.device reported.answer m.streams = ap (λ (x : World). x.streams) m.leaves in
    let later = event_later names w new reported.device m.before m.after reported.event reported.answer m.is m.stepped tables in
    let stays = step_stays names.steps m.before reported.event reported.answer m.after m.stepped in
    let after : slice_get new.tables reported.device ≡ Some m.after = ap (λ (ts : List DeviceTable). slice_get ts reported.device) tables ∙ set_own w.tables reported.device m.before m.after m.is in
    let waits = streams_more (Both (Waits w opened) (Asks w)) (Asks new) (λ giver taker bytes is. asks_on w new later giver taker bytes is.1) m.streams m.waits in
    let asks = device_asks laws w new reported.device m.before m.after reported.event reported.answer m.is m.stepped stays after drawn next_drawn (joined.paths reported.device) in
    let frames : AllByRecursion (FrameSent (Asks new) (map ends_of m.streams) reported.device) reported.answer.frames =
    all_more (DeviceAsks new reported.device) (FrameSent (Asks new) (map ends_of m.streams) reported.device) (λ frame so. frame_sent new (map ends_of m.streams) reported.device frame so) reported.answer.frames asks in
    let sent = answered_waits (Asks new) reported.device reported.answer m.streams frames waits in
    record {
      paths = λ device s at. let was = later device s at in subst (λ (p : ScannerProfile). AllByRecursion HasPath p.slots) (sym was.profile) (joined.paths device was.table was.there);
      rows = λ device v at. rows_by names w new opened produced reported.device m.before m.after reported.event reported.answer device v m.is m.stepped later drawn named joined m.event
          (set_cases w.tables reported.device device m.before m.after (Adapter v) m.is (ap (λ (ts : List DeviceTable). slice_get ts device) (sym tables) ∙ at));
      streams = subst (StreamsWait (Asks new)) (sym streams) sent.waits;
    }

-- ---- a schedule

-- the chronicle of some acts, in which connections join the points of their slots
record JoinsIn (configs : List Config) (c : Chronicle) : Type 0 where
  acts : List Act
  is : IsChronicle configs acts c
  joined : JoinsAt c.story.world c.opened

abbrev JoinedAfter : Chronicle → Type 0
JoinedAfter c = JoinsAt c.story.world c.opened

by_act : JoinLaws → (c : Chronicle) (act : Act) (said : Happened) → happens c.story.world act ≡ said → IfOk said (ActCases (Both (Waits c.story.world c.opened) (Asks c.story.world)) c.story.world) → OpeningsIn c → JoinsAt c.story.world c.opened → IfOk (recorded c act said) JoinedAfter
by_act laws c act (Err fault) is acts at joined = tt
by_act laws c act (Ok (None, new)) is acts at joined = streams_joined c.story.world new c.opened acts joined
by_act laws c act (Ok (Some reported, new)) is acts at joined =
    let same : slice_get c.story.world.tables reported.device ≡ Some acts.before = acts.is in
    let produced = at.produced in
    let openings = at.openings in
    subst (λ (o : Option DeviceTable). JoinedAfter (with_event_at c act reported new o)) (sym same)
    (subst (λ (u : DeviceTable). JoinsAt new (c.opened ++ frame_opens c.story.world reported.device acts.before reported.event u)) (sym (after_is acts.before reported acts.after acts.stepped))
    (event_joined laws c.story.world new c.opened c.produced reported acts produced.drawn (drawn_on laws.keep c.story.world act (Some reported) new is produced.drawn) openings.named joined))

and_reached : (configs : List Config) (acts : List Act) (c : Chronicle) (act : Act) (said : Result Chronicle ActFault) → after_act c act ≡ said → IsChronicle configs acts c → IfOk said JoinedAfter → IfOk said (WhereApart (JoinsIn configs))
and_reached configs acts c act (Err fault) goes is joined = tt
and_reached configs acts c act (Ok next) goes is joined = λ apart. record { acts = acts ++ act ∷ []; is = more_acts configs acts c next act is goes apart; joined = joined }

act_joined : JoinLaws → (configs : List Config) → ApartActsKeep (JoinsIn configs)
act_joined laws configs c act at =
    let w = c.story.world in
    let openings = schedule_openings laws.sends laws.keep laws.opens laws.once laws.names configs at.acts c at.is in
    let known = openings.openings in
    let named = known.named in
    let joined = at.joined in
    let waits = streams_both (Waits c.story.world c.opened) (Asks c.story.world) c.story.world.streams named.streams joined.streams in
    and_reached configs at.acts c act (after_act c act) refl at.is
    (by_act laws c act (happens c.story.world act) refl (act_acts (Both (Waits c.story.world c.opened) (Asks c.story.world)) c.story.world act waits) openings at.joined)

-- ---- at the beginning

no_rows : (made : Config) (t : AdapterTable) → opening_table made ≡ Adapter t → t.rows ≡ []
no_rows (config.Adapter profile) t is = sym (ap (λ (x : AdapterTable). x.rows) (adapter_is _ t is))
no_rows (config.Scanner profile) t is = absurd (let e = is in cc)

all_empty : (configs : List Config) (n : ℕ) (t : AdapterTable) → slice_get (map opening_table configs) n ≡ Some (Adapter t) → t.rows ≡ []
all_empty [] n t at = absurd (let e = at in cc)
all_empty (made ∷ configs) zero t at = no_rows made t (same_Some (opening_table made) (Adapter t) at)
all_empty (made ∷ configs) (suc n) t at = all_empty configs n t at

has_paths : (made : Config) (s : ScannerTable) → HasPaths made → opening_table made ≡ Scanner s → AllByRecursion HasPath s.profile.slots
has_paths (config.Adapter profile) s has is = absurd (let e = is in cc)
has_paths (config.Scanner profile) s has is = subst (λ (x : ScannerTable). AllByRecursion HasPath x.profile.slots) (scanner_is _ s is) has

all_have_paths : (configs : List Config) (n : ℕ) (s : ScannerTable) → HavePaths configs → slice_get (map opening_table configs) n ≡ Some (Scanner s) → AllByRecursion HasPath s.profile.slots
all_have_paths [] n s have at = absurd (let e = at in cc)
all_have_paths (made ∷ configs) zero s have at = has_paths made s have.0 (same_Some (opening_table made) (Scanner s) at)
all_have_paths (made ∷ configs) (suc n) s have at = all_have_paths configs n s have.1 at

begins_joined : (configs : List Config) (acts : List Act) (c : Chronicle) → IsChronicle configs acts c → HavePaths configs → WhereApart (JoinsIn configs) (blank (opening_world configs))
begins_joined configs acts c is have = λ apart. record {
  acts = [];
  is = nothing_yet configs acts c is apart;
  joined = record {
    paths = λ device s at. all_have_paths configs device s have at;
    rows = λ device t at. subst (AllByRecursion (RowJoins (opening_world configs) [] device t.profile)) (sym (all_empty configs device t at)) tt;
    streams = tt;
  };
}

schedule_joined : JoinLaws → (configs : List Config) (acts : List Act) (c : Chronicle) → IsChronicle configs acts c → HavePaths configs → JoinsIn configs c
schedule_joined laws configs acts c is have =
    let names = laws.names in
    let steps = names.steps in
    let held : WhereApart (JoinsIn configs) c = subst (λ (r : Result Chronicle ActFault). IfOk r (WhereApart (JoinsIn configs))) is.ran
    (chronicles_keep (WhereApart (JoinsIn configs)) (apart_keeps steps.blocks (JoinsIn configs) (act_joined laws configs)) acts (Ok (blank (opening_world configs))) (begins_joined configs acts c is have)) in
    held is.apart

-- ---- the law

pub join_points : JoinLaws → SchedulesJoinPoints
join_points laws configs acts c is have device t place number entry adapter row at there has among slot_is adapter_at in_rows opening_is =
    let all = schedule_joined laws configs acts c is have in
    let joined = all.joined in
    let openings = schedule_openings laws.sends laws.keep laws.opens laws.once laws.names configs acts c is in
    let known = openings.openings in
    let named = known.named in
    let e : IsEntry c.story.world c.opened entry = all_contains (IsEntry c.story.world c.opened) c.opened entry named.entries among in
    let row_joins : RowJoins c.story.world c.opened entry.row.device adapter.profile row =
    all_contains (RowJoins c.story.world c.opened entry.row.device adapter.profile) adapter.rows row (joined.rows entry.row.device adapter adapter_at) in_rows in
    let found : find (opens_row (end_at entry.row.device row.opening)) c.opened ≡ Some entry = ap (λ (n : ℕ). find (opens_row (end_at entry.row.device n)) c.opened) opening_is ∙ e.first in
    let scanner : slice_get c.story.world.tables entry.slot.device ≡ Some (Scanner t) = ap (λ (x : End). slice_get c.story.world.tables x.device) slot_is ∙ at in
    let slots = row_joins entry found t scanner in
    slots.slots place there (has ∙ ap (λ (x : End). Some x.number) (sym slot_is))
