-- A connection that begins after a moment accepts nothing that was sent by then.
use Rattle.std.proofs.Common.{◌≡◌, ◌≢◌, ◌≤◌, ◌<◌, ◌⊎◌, inl, inr, ℕ, zero, suc, ◌+◌, ◌==◌, ◌&&◌, ◌||◌, nat_le, Bool, true, false, cond, List, [], ◌∷◌, length, set, slice_get, slice_index_or, find, Option, Some, None, Result, Ok, Err, IfOk, refl, sym, ◌∙◌, ap, subst, arith, eqb-true, eq-eqb, leb-true, le-leb}
use Rattle.std.specs.List.{AllByRecursion, Contains, list_any}
use Rattle.std.proofs.lemmas.Bool.{and_parts, false_from_ne_true, or_right}
use Rattle.std.proofs.lemmas.Option.{same_Some}
use Rattle.base_lemmas.specs.Lists.{found_passes}
use Rattle.base_lemmas.specs.Numbers.{number_same}
use Rattle.cip_types.specs.IdLaws.{ids_fit}
use Rattle.cip_types.specs.Ids.{id_at}
use Rattle.cip_types.specs.declared.names.ConnId.{ConnId}
use Rattle.cip_types.specs.declared.names.Node.{Node}
use Rattle.cip_datagram.specs.declared.datagram.DatagramFault.{DatagramFault}
use Rattle.cip_datagram.specs.Datagram.{DatagramFields}
use Rattle.cip_datagram.specs.Reading.{datagram_reading}
use Rattle.cip_events.specs.declared.event.Answer.{Answer}
use Rattle.cip_events.specs.declared.event.Event.{Event}
use Rattle.adapter_table.specs.Connections.{Row}
use Rattle.adapter_table.specs.declared.table.AdapterTable.{AdapterTable}
use Rattle.adapter_table.specs.Datagrams.{is_for}
use Rattle.adapter_table.specs.Newest.{Acceptance, was_opened_as, accepted_found, accepted_read}
use Rattle.adapter_table.specs.EachLemmas.{each_found}
use Rattle.adapter_table.specs.Productions.{producer_of}
use Rattle.adapter_table.specs.Rows.{Each, is_established}
use Rattle.adapter_table.specs.Sound.{IsDrawn, MulticastIdIsDrawn}
use Rattle.cip_tables.specs.declared.table.DeviceTable.{DeviceTable}
use Rattle.cip_tables.specs.declared.table.DeviceTable.TheVariants.{Adapter, Scanner}
use Rattle.cip_tables.specs.Step.{step}
use Rattle.cip_tables.specs.Whole.{IsWholeDevice, ids_of, next_id_of}
use Rattle.segment_world.specs.Transit.Log.{Sent}
use Rattle.segment_world.specs.declared.act.Act.{Act}
use Rattle.segment_world.specs.declared.act.ActFault.{ActFault}
use Rattle.segment_world.specs.World.{World, ReportedEvent, Happened, happens}
use Rattle.segment_world.specs.Story.{Story, goes_on, runs}
use Rattle.device_laws.specs.Ids.{ReadId, RowIds}
use Rattle.device_laws.specs.Lemmas.Numbered.{one_number}
use Rattle.device_laws.specs.Carrying.{Passes, TableIds}
use Rattle.schedule_laws.specs.Ids.{IsDrawnFrame, is_drawn, any_opening, SentHolds, IdsAreDrawn, Moments, IdsToComeAreUnsent, LaterConnectionsAcceptNoneOfIt, LaterGroupsSentNoneOfIt}
use Rattle.schedule_laws.specs.Lives.{AreApart, HasNumber}
use Rattle.schedule_laws.specs.Lemmas.Moves.{Moves, act_moves, runs_keep}
use Rattle.schedule_laws.specs.Lemmas.Tests.{DrawnBy, drawn_cases, not_both, set_cases, whole_blocks, whole_in_range}
use Rattle.schedule_laws.specs.Lemmas.Drawing.{StepLaws, Openings, Drawn, Grew, grew_itself, runs_grew, moved_drawn, runs_drawn, all_drawn}

-- ---- what a list contains

contains_step : {X : Type 0} (P : X → Type 0) (y : X) (xs : List X) (x : X) (k : ℕ) → k < length (y ∷ xs) → slice_index_or (y ∷ xs) k x ≡ x → P y → (Contains xs x → P x) → P x
contains_step P y xs x zero lt is here more = subst P is here
contains_step P y xs x (suc k) lt is here more = more (k, omega (arith, lt), is)

pub all_contains : {X : Type 0} (P : X → Type 0) (xs : List X) (x : X) → AllByRecursion P xs → Contains xs x → P x
all_contains P [] x all there = absurd (omega (arith, there.1))
all_contains P (y ∷ xs) x all there = contains_step P y xs x there.0 there.1 there.2 all.0 (λ later. all_contains P xs x all.1 later)

each_contains : (P : Row → Type 0) (rows : List Row) (row : Row) → Each P rows → Contains rows row → P row
each_contains P [] x all there = absurd (omega (arith, there.1))
each_contains P (y ∷ xs) x all there = contains_step P y xs x there.0 there.1 there.2 all.0 (λ later. each_contains P xs x all.1 later)

-- ---- what was sent

-- the id of a datagram that was sent is none that a device may still allocate
pub sent_id : (w : World) (s : Sent) (d : DatagramFields) → AllByRecursion (SentHolds (Passes (is_drawn w.tables))) w.sent → Contains w.sent s → datagram_reading s.bytes ≡ Ok d → Passes (is_drawn w.tables) d.connection
sent_id w s d all there reads =
    let id = all_contains (SentHolds (Passes (is_drawn w.tables))) w.sent s all there in
    subst (ReadId (Passes (is_drawn w.tables))) reads id

-- it is no id that the device draws after that moment, where no two devices have blocks with one id at the later one
pub unsent : (was now : World) (device : ℕ) (t u : DeviceTable) (number : ℕ) (s : Sent) (d : DatagramFields) → AllByRecursion (SentHolds (Passes (is_drawn was.tables))) was.sent → ((e : ℕ) (x : DeviceTable) → slice_get was.tables e ≡ Some x → IsWholeDevice x) → ((e : ℕ) (x : DeviceTable) → slice_get now.tables e ≡ Some x → IsWholeDevice x) → Grew was.tables now.tables → AreApart now.tables → slice_get was.tables device ≡ Some t → slice_get now.tables device ≡ Some u → next_id_of t ≤ number → HasNumber u number → Contains was.sent s → datagram_reading s.bytes ≡ Ok d → d.connection ≢ (id_at (ids_of u) number).0
unsent was now device t u number s d all whole whole_now grew apart at_was at_now from has there reads is = by_case (drawn_cases was.tables d.connection (sent_id was s d all there reads)) where
  by_case : (d.connection ≡ 0) ⊎ DrawnBy was.tables d.connection → ⊥
  by_case (inl none) =
      let ends = has.ends in
      let some = (ids_fit (ids_of u) number (whole_blocks u (whole_now device u at_now)) has.begins (omega (arith, ends))).0 in
      absurd (omega (arith, none, is, some))
  by_case (inr by) =
      let g = grew by.device by.table by.there in
      let n = by.numbered in
      let last = whole_in_range by.table (whole by.device by.table by.there) in
      let below = n.ends in
      let counts = g.counts in
      let stays = g.blocks.same n.number n.begins (omega (arith, below, last)) in
      let last_now = whole_in_range g.table (whole_now by.device g.table g.there) in
      let same : (id_at (ids_of g.table) n.number).0 ≡ (id_at (ids_of u) number).0 = ap (λ (c : ConnId). c.0) stays ∙ n.is ∙ is in
      let place : by.device ≡ device = apart.differ by.device device g.table u n.number number g.there at_now (record { begins = n.begins; ends = omega (arith, below, counts, last_now) }) has same in
      let own : g.table ≡ u = same_Some g.table u (sym g.there ∙ ap (slice_get now.tables) place ∙ at_now) in
      let first : by.table ≡ t = same_Some by.table t (sym by.there ∙ ap (slice_get was.tables) place ∙ at_was) in
      let old : n.number < next_id_of t = subst (λ (x : DeviceTable). n.number < next_id_of x) first n.ends in
      let ends = has.ends in
      let equal : n.number ≡ number =
      one_number (ids_of u) n.number number (whole_blocks u (whole_now device u at_now)) n.begins (omega (arith, old, from, ends)) has.begins has.ends
      (subst (λ (x : DeviceTable). (id_at (ids_of x) n.number).0 ≡ (id_at (ids_of u) number).0) own same) in
      absurd (omega (arith, equal, old, from))

pub ids_to_come_are_unsent : IdsToComeAreUnsent
ids_to_come_are_unsent w device t number s d ids apart at from has there reads is =
    unsent w w device t t number s d ids.sent ids.whole ids.whole (grew_itself w.tables) apart at at from has there reads is

-- ---- connections of an adapter

abbrev opened_or_later : AdapterTable → ℕ → Bool → Bool
opened_or_later t opening true = nat_le t.next_id opening || list_any (was_opened_as opening) t.rows
opened_or_later t opening false = true

-- an opening number that was in the table at a moment, or was given later
abbrev opened_from : ℕ → AdapterTable → Openings
opened_from device t e opening = opened_or_later t opening (e == device)

pub adapter_same : (a b : AdapterTable) → Adapter a ≡ Adapter b → a ≡ b
adapter_same a b is = ap (λ (x : DeviceTable). adapter_or x) is where
  adapter_or : DeviceTable → AdapterTable
  adapter_or (Adapter x) = x
  adapter_or (Scanner x) = a

found_step : (P : Row → Type 0) (b : Bool) (first row : Row) (rest : Option Row) → cond b (Some first) rest ≡ Some row → P first → (rest ≡ Some row → P row) → P row
found_step P true first row rest is here more = let same : first ≡ row = cc in subst P same here
found_step P false first row rest is here more = more is

all_found : (P : Row → Type 0) (p : Row → Bool) (rows : List Row) (row : Row) → find p rows ≡ Some row → AllByRecursion P rows → P row
all_found P p [] row is all = absurd (let e = is in cc)
all_found P p (first ∷ rows) row is all = found_step P (p first) first row (find p rows) is all.0 (λ later. all_found P p rows row later all.1)

-- ---- one device from a moment on

-- a property that each of its steps keeps
abbrev pub StepsKeepIt : (DeviceTable → Type 0) → Type 0
StepsKeepIt R = (t : DeviceTable) (happens : Event) (a : Answer) (u : DeviceTable) → step t happens ≡ Ok (a, u) → IsWholeDevice t → IsWholeDevice u → R t → R u

pub record Kept (R : DeviceTable → Type 0) (q : Openings) (device : ℕ) (story : Story) : Type 0 where
  pub drawn : Drawn q story.world
  pub holds : (t : DeviceTable) → slice_get story.world.tables device ≡ Some t → R t

moved_kept : StepLaws → (R : DeviceTable → Type 0) → StepsKeepIt R → (q : Openings) (device : ℕ) (story : Story) (moved : Option ReportedEvent × World) → Kept R q device story → Moves (IsDrawnFrame story.world.tables) story.world moved → Drawn q moved.1 → (x : DeviceTable) → slice_get moved.1.tables device ≡ Some x → R x
moved_kept laws R keep q device story (None, new) kept rests drawn x there = kept.holds x (sym (ap (λ (l : List DeviceTable). slice_get l device) rests.tables) ∙ there)
moved_kept laws R keep q device story (Some reported, new) kept came drawn x there =
    let tables : new.tables ≡ set story.world.tables reported.device came.after = ap (λ (w : World). w.tables) came.leaves in
    let now : slice_get (set story.world.tables reported.device came.after) device ≡ Some x = sym (ap (λ (l : List DeviceTable). slice_get l device) tables) ∙ there in
    elim (set_cases story.world.tables reported.device device came.before came.after x came.is now) [
      | inl own ↦
          let before = kept.holds came.before (ap (slice_get story.world.tables) own.0 ∙ came.is) in
          let whole = kept.drawn.whole reported.device came.before came.is in
          let whole_x = drawn.whole device x there in
          subst R (sym own.1) (keep came.before reported.event reported.answer came.after came.stepped whole (subst IsWholeDevice own.1 whole_x) before)
      | inr other ↦ kept.holds x other.1
    ]

act_kept : StepLaws → (R : DeviceTable → Type 0) → StepsKeepIt R → (q : Openings) (device : ℕ) (story : Story) (said : Happened) → Kept R q device story → IfOk said (Moves (IsDrawnFrame story.world.tables) story.world) → IfOk (goes_on story.reported said) (Kept R q device)
act_kept laws R keep q device story (Err fault) kept moves = tt
act_kept laws R keep q device story (Ok moved) kept moves =
    let drawn = moved_drawn laws q story.world moved kept.drawn moves in
    record { drawn = drawn; holds = moved_kept laws R keep q device story moved kept moves drawn }

pub runs_kept : StepLaws → (R : DeviceTable → Type 0) → StepsKeepIt R → (q : Openings) (device : ℕ) (was now : Story) (acts : List Act) → runs (Ok was) acts ≡ Ok now → Kept R q device was → Kept R q device now
runs_kept laws R keep q device was now acts ran kept =
    subst (λ (r : Result Story ActFault). IfOk r (Kept R q device)) ran
    (runs_keep (Kept R q device) (λ story act is. act_kept laws R keep q device story (happens story.world act) is (act_moves (IsDrawnFrame story.world.tables) story.world act is.drawn.streams)) acts (Ok was) kept)

-- ---- the moment

-- the earlier moment has the properties that the start has
pub at_moment : StepLaws → (start : World) (was now : Story) → IdsAreDrawn start → Moments start was now → Drawn (λ device opening. true) was.world
at_moment laws start was now ids moments = runs_drawn laws (λ device opening. true) (record { world = start; reported = [] }) was moments.early moments.first (all_drawn start ids)

opens_step : (b : Bool) (device e n : ℕ) (t : AdapterTable) (x : DeviceTable) (tables : List DeviceTable) → (e == device) ≡ b → slice_get tables device ≡ Some (Adapter t) → slice_get tables e ≡ Some x → next_id_of x ≤ n → opened_or_later t n b ≡ true
opens_step true device e n t x tables is at there from =
    let same = eqb-true e device is in
    let table : x ≡ Adapter t = same_Some x (Adapter t) (sym there ∙ ap (slice_get tables) same ∙ at) in
    let counts : next_id_of x ≡ t.next_id = ap next_id_of table in
    ap (λ (b : Bool). b || list_any (was_opened_as n) t.rows) (le-leb t.next_id n (omega (arith, counts, from)))
opens_step false device e n t x tables is at there from = refl

row_itself : (n : ℕ) (row : Row) (rows : List Row) → row.opening ≡ n → list_any (was_opened_as n) (row ∷ rows) ≡ true
row_itself n row rows same = ap (λ (b : Bool). b || list_any (was_opened_as n) rows) (eq-eqb row.opening n same)

marked : (P : ℕ → Type 0) (q : ℕ → Bool) (rows : List Row) → ((row : Row) → list_any (was_opened_as row.opening) rows ≡ true → q row.opening ≡ true) → AllByRecursion (RowIds P (Passes any_opening)) rows → AllByRecursion (RowIds P (Passes q)) rows
marked P q [] each all = tt
marked P q (row ∷ rows) each all = (
  record { o_t = all.0.o_t; t_o = all.0.t_o; opening = each row (row_itself row.opening row rows refl) },
  marked P q rows (λ other stands. each other (or_right (was_opened_as other.opening row) (list_any (was_opened_as other.opening) rows) stands)) all.1,
)

mark_table : (ids q : ℕ → Bool) (x : DeviceTable) → ((a : AdapterTable) → x ≡ Adapter a → (row : Row) → list_any (was_opened_as row.opening) a.rows ≡ true → q row.opening ≡ true) → TableIds ids any_opening x → TableIds ids q x
mark_table ids q (Adapter a) each table = marked (Passes ids) q a.rows (each a refl) table
mark_table ids q (Scanner s) each table = table

mark_step : (b : Bool) (device e n : ℕ) (t a : AdapterTable) (x : DeviceTable) (tables : List DeviceTable) → (e == device) ≡ b → slice_get tables device ≡ Some (Adapter t) → slice_get tables e ≡ Some x → x ≡ Adapter a → list_any (was_opened_as n) a.rows ≡ true → opened_or_later t n b ≡ true
mark_step true device e n t a x tables is at there table stands =
    let same = eqb-true e device is in
    let own : a ≡ t = adapter_same a t (sym table ∙ same_Some x (Adapter t) (sym there ∙ ap (slice_get tables) same ∙ at)) in
    or_right (nat_le t.next_id n) (list_any (was_opened_as n) t.rows) (subst (λ (y : AdapterTable). list_any (was_opened_as n) y.rows ≡ true) own stands)
mark_step false device e n t a x tables is at there table stands = refl

-- from the moment on each connection was in the table then, or has a later number
marked_moment : (device : ℕ) (t : AdapterTable) (w : World) → slice_get w.tables device ≡ Some (Adapter t) → Drawn (λ e opening. true) w → Drawn (opened_from device t) w
marked_moment device t w at drawn = record {
  whole = drawn.whole;
  tables = λ e x there. mark_table (is_drawn w.tables) (opened_from device t e) x (λ a table row stands. mark_step (e == device) device e row.opening t a x w.tables refl at there table stands) (drawn.tables e x there);
  class3 = drawn.class3;
  opens = λ e x there n from. opens_step (e == device) device e n t x w.tables refl at there from;
  sent = drawn.sent;
  streams = drawn.streams;
  plain = drawn.plain;
}

-- ---- connections of an adapter

none_by : (b c : Bool) (x : Acceptance) → b ≡ false → cond (b && c) (x ∷ []) [] ≡ []
none_by true c x is = absurd (let e = is in cc)
none_by false c x is = refl

left_is : (a b : Bool) → (a || b) ≡ true → b ≡ false → a ≡ true
left_is true b is none = refl
left_is false b is none = not_both b is none

later_row : (was now : World) (device : ℕ) (t u : AdapterTable) (opening : ℕ) (peer : Node) (s : Sent) (d : DatagramFields) (row : Row) (ids : ℕ → Bool) → AllByRecursion (SentHolds (Passes (is_drawn was.tables))) was.sent → ((e : ℕ) (x : DeviceTable) → slice_get was.tables e ≡ Some x → IsWholeDevice x) → ((e : ℕ) (x : DeviceTable) → slice_get now.tables e ≡ Some x → IsWholeDevice x) → Grew was.tables now.tables → AreApart now.tables → slice_get was.tables device ≡ Some (Adapter t) → slice_get now.tables device ≡ Some (Adapter u) → TableIds ids (opened_from device t device) (Adapter u) → list_any (was_opened_as opening) t.rows ≡ false → Contains was.sent s → datagram_reading s.bytes ≡ Ok d → find (is_for peer d.connection) u.rows ≡ Some row → was_opened_as opening row ≡ false
later_row was now device t u opening peer s d row ids all whole whole_now grew apart at_was at_now table none there reads found =
    false_from_ne_true (was_opened_as opening row) (λ is.
    let own_whole = whole_now device (Adapter u) at_now in
    let same = eqb-true row.opening opening is in
    let passes = found_passes (is_for peer d.connection) u.rows row found in
    let parts = and_parts (is_established row) ((row.peer.0 == peer.0) && (row.o_t_id.0 == d.connection)) passes in
    let own = and_parts (row.peer.0 == peer.0) (row.o_t_id.0 == d.connection) parts.1 in
    let id = eqb-true row.o_t_id.0 d.connection own.1 in
    let drawn = each_found (IsDrawn u.ids u.next_id) (is_for peer d.connection) u.rows row found own_whole.sound.ids_are_drawn in
    let marks = (all_found (RowIds (Passes ids) (Passes (opened_from device t device))) (is_for peer d.connection) u.rows row found table).opening in
    let test_passes : opened_or_later t row.opening true ≡ true = ap (λ (b : Bool). opened_or_later t row.opening b) (sym (number_same device)) ∙ marks in
    let stood : list_any (was_opened_as row.opening) t.rows ≡ false = ap (λ (n : ℕ). list_any (was_opened_as n) t.rows) same ∙ none in
    let from = leb-true t.next_id row.opening (left_is (nat_le t.next_id row.opening) (list_any (was_opened_as row.opening) t.rows) test_passes stood) in
    let in_range = own_whole.sound.ids_are_left in
    let below = drawn.below in
    unsent was now device (Adapter t) (Adapter u) row.opening s d all whole whole_now grew apart at_was at_now from (record { begins = drawn.begins; ends = omega (arith, in_range, below) }) there reads
    (sym id ∙ ap (λ (i : ConnId). i.0) drawn.id))

accepts_none : (opening : ℕ) (u : AdapterTable) (peer : Node) (reading : Result DatagramFields DatagramFault) → ((d : DatagramFields) (row : Row) → reading ≡ Ok d → find (is_for peer d.connection) u.rows ≡ Some row → was_opened_as opening row ≡ false) → accepted_read opening u peer reading ≡ []
accepts_none opening u peer (Err fault) later = refl
accepts_none opening u peer (Ok d) later = found_none (find (is_for peer d.connection) u.rows) refl where
  found_none : (found : Option Row) → find (is_for peer d.connection) u.rows ≡ found → accepted_found opening u.profile u.clock d found ≡ []
  found_none None is = refl
  found_none (Some row) is = none_by (was_opened_as opening row) _ _ (later d row refl is)

pub later_connections : StepLaws → LaterConnectionsAcceptNoneOfIt
later_connections laws start was now device opening t u s ids moments apart at_was at_now none there =
    let drawn = at_moment laws start was now ids moments in
    let later = runs_drawn laws (opened_from device t) was now moments.late moments.rest (marked_moment device t was.world at_was drawn) in
    let grew = runs_grew laws (λ e o. true) was now moments.late moments.rest drawn in
    accepts_none opening u s.from (datagram_reading s.bytes)
    (λ d row reads found. later_row was.world now.world device t u opening s.from s d row (is_drawn now.world.tables) drawn.sent drawn.whole later.whole grew apart at_was at_now (later.tables device (Adapter u) at_now) none there reads found)

-- ---- groups

pub later_groups : StepLaws → LaterGroupsSentNoneOfIt
later_groups laws start was now device t u row s d ids moments apart at_was at_now among lives multicast from there reads is =
    let drawn = at_moment laws start was now ids moments in
    let later = runs_drawn laws (λ e o. true) was now moments.late moments.rest drawn in
    let grew = runs_grew laws (λ e o. true) was now moments.late moments.rest drawn in
    let whole = later.whole device (Adapter u) at_now in
    let id = each_contains (MulticastIdIsDrawn u.ids u.next_id) u.rows row whole.sound.producers.multicast among lives multicast in
    let in_range = whole.sound.ids_are_left in
    let below = id.1 in
    unsent was.world now.world device (Adapter t) (Adapter u) (producer_of row.state + 1) s d drawn.sent drawn.whole later.whole grew apart at_was at_now (omega (arith, from)) (record { begins = omega arith; ends = omega (arith, in_range, below) }) there reads
    (is ∙ ap (λ (i : ConnId). i.0) id.0)
