-- Every schedule keeps that each id which is anywhere in the world was allocated by a device; with it goes a test of the opening
-- numbers of each adapter's connections.
use Rattle.std.proofs.Common.{◌≡◌, ◌≤◌, inl, inr, ℕ, ◌==◌, Bool, true, false, List, [], ◌∷◌, map, set, slice_get, Option, Some, None, Result, Ok, Err, IfOk, refl, sym, ◌∙◌, ap, subst, arith, eqb-true}
use Rattle.std.specs.List.{AllByRecursion}
use Rattle.std.proofs.lemmas.Bool.{eqb-false}
use Rattle.std.proofs.lemmas.Option.{same_Some}
use Rattle.base_lemmas.specs.Lists.{set_own, set_other}
use Rattle.cip_types.specs.declared.names.ConnId.{ConnId}
use Rattle.cip_types.specs.IdLaws.{extends_itself, extends_on}
use Rattle.cip_types.specs.Ids.{Extends}
use Rattle.cip_types.specs.declared.names.Node.{Node}
use Rattle.cip_events.specs.declared.event.OutgoingDatagram.{OutgoingDatagram}
use Rattle.adapter_table.specs.declared.profile.Profile.{Profile}
use Rattle.adapter_table.specs.Laws.{StepsKeep}
use Rattle.scanner_table.specs.Counters.{CountsOn}
use Rattle.scanner_table.specs.Runs.{StepsLead}
use Rattle.cip_tables.specs.declared.table.DeviceTable.{DeviceTable}
use Rattle.cip_tables.specs.Sound.{StepsCountOn, StepsGrow}
use Rattle.cip_tables.specs.Whole.{IsWholeDevice, ids_of, next_id_of, RunsKeepWhole}
use Rattle.segment_world.specs.declared.act.Act.{Act}
use Rattle.segment_world.specs.declared.act.ActFault.{ActFault}
use Rattle.segment_world.specs.World.{World, ReportedEvent, Happened, node_at, sent_by, happens}
use Rattle.segment_world.specs.Story.{Story, goes_on, runs}
use Rattle.cip_events.specs.declared.event.Frame.{Frame}
use Rattle.device_laws.specs.Ids.{FrameIds, HasFrameIds, HasDatagramId}
use Rattle.device_laws.specs.Plain.{FrameHasPlainService, SendsPlainly, IsPlainDevice, PlainDevicesStayPlain}
use Rattle.device_laws.specs.Carrying.{Passes, TableIds, HasClass3Ids, StepsCarryIds, StepsCarryClass3Ids}
use Rattle.schedule_laws.specs.Ids.{is_drawn, any_stream, StreamsHold, SentHolds, IsDrawnFrame, IdsAreDrawn, SchedulesKeepIdsDrawn}
use Rattle.schedule_laws.specs.Lives.{AreApart}
use Rattle.schedule_laws.specs.Lemmas.Lists.{all_both, all_more}
use Rattle.schedule_laws.specs.Lemmas.Moves.{answered_holds, Came, Rests, Moves, act_moves, runs_keep}
use Rattle.schedule_laws.specs.Lemmas.Carrying.{More, frame_more, datagram_more, table_more, class3_more, streams_more, event_more, event_first, event_plain, frame_asks_plainly, answer_passes}
use Rattle.schedule_laws.specs.Lemmas.Tests.{apart_before, drawn_fits, drawn_more, now_drawn, set_cases, whole_begins, whole_in_range, zero_drawn}

-- the laws of the steps of devices
pub record StepLaws : Type 0 where
  pub carry : StepsCarryIds
  pub class3 : StepsCarryClass3Ids
  pub plain : PlainDevicesStayPlain
  pub whole : RunsKeepWhole
  pub counts : StepsCountOn
  pub adapters : (profile : Profile) → StepsKeep (λ t. t.profile ≡ profile)
  pub blocks : StepsGrow
  pub scanners : StepsLead CountsOn

-- a test of the opening numbers of each device
abbrev pub Openings : Type 0
Openings = ℕ → ℕ → Bool

pub record Drawn (q : Openings) (w : World) : Type 0 where
  pub whole : (device : ℕ) (t : DeviceTable) → slice_get w.tables device ≡ Some t → IsWholeDevice t
  pub tables : (device : ℕ) (t : DeviceTable) → slice_get w.tables device ≡ Some t → TableIds (is_drawn w.tables) (q device) t
  pub class3 : (device : ℕ) (t : DeviceTable) → slice_get w.tables device ≡ Some t → HasClass3Ids (is_drawn w.tables) t
  pub opens : (device : ℕ) (t : DeviceTable) → slice_get w.tables device ≡ Some t → (n : ℕ) → next_id_of t ≤ n → q device n ≡ true
  pub sent : AllByRecursion (SentHolds (Passes (is_drawn w.tables))) w.sent
  pub streams : StreamsHold (IsDrawnFrame w.tables) w.streams
  pub plain : (device : ℕ) (t : DeviceTable) → slice_get w.tables device ≡ Some t → IsPlainDevice any_stream t

-- ---- an event

sent_more : (node : Node) (P : ℕ → Type 0) (datagrams : List OutgoingDatagram) → AllByRecursion (HasDatagramId P) datagrams → AllByRecursion (SentHolds P) (map (sent_by node) datagrams)
sent_more node P [] ids = tt
sent_more node P (outgoing ∷ datagrams) ids = (ids.0, sent_more node P datagrams ids.1)

frames_drawn : (tables : List DeviceTable) (frames : List Frame) → AllByRecursion (HasFrameIds (Passes (is_drawn tables))) frames → AllByRecursion SendsPlainly frames → AllByRecursion (λ (f : Frame). IsDrawnFrame tables f.bytes) frames
frames_drawn tables [] ids plain = tt
frames_drawn tables (frame ∷ frames) ids plain = ((ids.0, frame_asks_plainly frame.bytes plain.0), frames_drawn tables frames ids.1 plain.1)

came_drawn : StepLaws → (q : Openings) (w new : World) (reported : ReportedEvent) → Drawn q w → Came (IsDrawnFrame w.tables) w reported new → Drawn q new
came_drawn laws q w new reported drawn came =
    let d = reported.device in
    let t = came.before in
    let u = came.after in
    let at = came.is in
    let counts = laws.counts came.before reported.event (reported.answer, came.after) came.stepped in
    let grows = laws.blocks came.before reported.event (reported.answer, came.after) came.stepped in
    let whole_t = drawn.whole reported.device came.before at in
    let whole_u = laws.whole came.before came.after (reported.event ∷ []) (Ok reported.answer ∷ []) whole_t (came.after, came.stepped, refl) in
    let begins = whole_begins came.before whole_t in
    let tables = set w.tables reported.device came.after in
    let now = Passes (is_drawn (set w.tables reported.device came.after)) in
    let more : More (Passes (is_drawn w.tables)) now = λ id passes.
    drawn_more w.tables reported.device came.before came.after id at (whole_in_range came.before whole_t) grows counts passes in
    let all_whole : (e : ℕ) (x : DeviceTable) → slice_get tables e ≡ Some x → IsWholeDevice x = λ e x there.
    elim (set_cases w.tables reported.device e came.before came.after x at there) [
      | inl own ↦ subst IsWholeDevice (sym own.1) whole_u
      | inr other ↦ drawn.whole e x other.1
    ] in
    let done = laws.carry (is_drawn tables) (q reported.device) came.before reported.event reported.answer came.after came.stepped whole_t
    (λ id passes. drawn_fits tables id all_whole passes) (zero_drawn tables)
    (λ number from below. now_drawn w.tables reported.device came.before came.after number at (omega (arith, begins, from)) below)
    (λ n from below. drawn.opens reported.device came.before at n from)
    (event_more (Passes (is_drawn w.tables)) now more reported.event (event_first (FrameIds (Passes (is_drawn w.tables))) FrameHasPlainService reported.event came.event))
    (answer_passes (is_drawn tables) came.before reported.event (drawn.plain reported.device came.before at))
    (table_more (is_drawn w.tables) (is_drawn tables) (q reported.device) more came.before (drawn.tables reported.device came.before at)) in
    let messages = laws.class3 (is_drawn tables) came.before reported.event reported.answer came.after came.stepped
    (λ number from below within. subst (λ (id : ConnId). Passes (is_drawn tables) id.0) (grows.same number (omega (arith, begins, from)) (omega (arith, within)))
    (now_drawn w.tables reported.device came.before came.after number at (omega (arith, begins, from)) below))
    (event_more (Passes (is_drawn w.tables)) now more reported.event (event_first (FrameIds (Passes (is_drawn w.tables))) FrameHasPlainService reported.event came.event))
    (class3_more (is_drawn w.tables) (is_drawn tables) more came.before (drawn.class3 reported.device came.before at)) in
    let plainly = laws.plain any_stream came.before reported.event reported.answer came.after came.stepped whole_t (event_plain (FrameIds (Passes (is_drawn w.tables))) reported.event came.event) (drawn.plain reported.device came.before at) in
    subst (Drawn q) (sym came.leaves) (record {
      whole = all_whole;
      tables = λ e x there. elim (set_cases w.tables reported.device e came.before came.after x at there) [
        | inl own ↦ subst (λ (n : ℕ). TableIds (is_drawn tables) (q n) x) (sym own.0) (subst (TableIds (is_drawn tables) (q reported.device)) (sym own.1) done.0)
        | inr other ↦ table_more (is_drawn w.tables) (is_drawn tables) (q e) more x (drawn.tables e x other.1)
      ];
      class3 = λ e x there. elim (set_cases w.tables reported.device e came.before came.after x at there) [
        | inl own ↦ subst (HasClass3Ids (is_drawn tables)) (sym own.1) messages
        | inr other ↦ class3_more (is_drawn w.tables) (is_drawn tables) more x (drawn.class3 e x other.1)
      ];
      opens = λ e x there. elim (set_cases w.tables reported.device e came.before came.after x at there) [
        | inl own ↦ λ n from. subst (λ (k : ℕ). q k n ≡ true) (sym own.0) (drawn.opens reported.device came.before at n (let e2 = ap next_id_of own.1 in omega (arith, counts, from, e2)))
        | inr other ↦ drawn.opens e x other.1
      ];
      sent = all_both (SentHolds now) w.sent (map (sent_by (node_at w reported.device)) reported.answer.datagrams)
          (all_more (SentHolds (Passes (is_drawn w.tables))) (SentHolds now) (λ s id. datagram_more (Passes (is_drawn w.tables)) now more s.bytes id) w.sent drawn.sent)
          (sent_more (node_at w reported.device) now reported.answer.datagrams done.1.datagrams);
      streams = answered_holds (IsDrawnFrame tables) reported.device reported.answer came.streams (frames_drawn tables reported.answer.frames done.1.frames plainly.1)
          (streams_more (IsDrawnFrame w.tables) (IsDrawnFrame tables) (λ bytes is. (frame_more (Passes (is_drawn w.tables)) now more bytes is.0, is.1)) came.streams came.queued);
      plain = λ e x there. elim (set_cases w.tables reported.device e came.before came.after x at there) [
        | inl own ↦ subst (IsPlainDevice any_stream) (sym own.1) plainly.0
        | inr other ↦ drawn.plain e x other.1
      ];
    })

rests_drawn : (q : Openings) (w new : World) → Drawn q w → Rests (IsDrawnFrame w.tables) w new → Drawn q new
rests_drawn q w new drawn rests =
    let back = sym rests.tables in
    record {
      whole = subst (λ (l : List DeviceTable). (device : ℕ) (t : DeviceTable) → slice_get l device ≡ Some t → IsWholeDevice t) back drawn.whole;
      tables = subst (λ (l : List DeviceTable). (device : ℕ) (t : DeviceTable) → slice_get l device ≡ Some t → TableIds (is_drawn l) (q device) t) back drawn.tables;
      class3 = subst (λ (l : List DeviceTable). (device : ℕ) (t : DeviceTable) → slice_get l device ≡ Some t → HasClass3Ids (is_drawn l) t) back drawn.class3;
      opens = subst (λ (l : List DeviceTable). (device : ℕ) (t : DeviceTable) → slice_get l device ≡ Some t → (n : ℕ) → next_id_of t ≤ n → q device n ≡ true) back drawn.opens;
      sent = subst (λ (l : List DeviceTable). AllByRecursion (SentHolds (Passes (is_drawn l))) new.sent) back (subst (AllByRecursion (SentHolds (Passes (is_drawn w.tables)))) (sym rests.sent) drawn.sent);
      streams = subst (λ (l : List DeviceTable). StreamsHold (IsDrawnFrame l) new.streams) back rests.queued;
      plain = subst (λ (l : List DeviceTable). (device : ℕ) (t : DeviceTable) → slice_get l device ≡ Some t → IsPlainDevice any_stream t) back drawn.plain;
    }

-- ---- a schedule

pub moved_drawn : StepLaws → (q : Openings) (w : World) (moved : Option ReportedEvent × World) → Drawn q w → Moves (IsDrawnFrame w.tables) w moved → Drawn q moved.1
moved_drawn laws q w (None, new) drawn rests = rests_drawn q w new drawn rests
moved_drawn laws q w (Some reported, new) drawn came = came_drawn laws q w new reported drawn came

abbrev pub StoryDrawn : Openings → Story → Type 0
StoryDrawn q story = Drawn q story.world

act_drawn : StepLaws → (q : Openings) (story : Story) (said : Happened) → StoryDrawn q story → IfOk said (Moves (IsDrawnFrame story.world.tables) story.world) → IfOk (goes_on story.reported said) (StoryDrawn q)
act_drawn laws q story (Err fault) drawn moves = tt
act_drawn laws q story (Ok moved) drawn moves = moved_drawn laws q story.world moved drawn moves

pub runs_drawn : StepLaws → (q : Openings) (was now : Story) (acts : List Act) → runs (Ok was) acts ≡ Ok now → StoryDrawn q was → StoryDrawn q now
runs_drawn laws q was now acts ran drawn =
    subst (λ (r : Result Story ActFault). IfOk r (StoryDrawn q)) ran
    (runs_keep (StoryDrawn q) (λ story act is. act_drawn laws q story (happens story.world act) is (act_moves (IsDrawnFrame story.world.tables) story.world act is.streams)) acts (Ok was) drawn)

-- ---- devices stay apart before

pub moved_apart : StepsGrow → (w : World) (Q : List ℕ → Type 0) (moved : Option ReportedEvent × World) → Moves Q w moved → AreApart moved.1.tables → AreApart w.tables
moved_apart blocks w Q (None, new) rests apart = subst AreApart rests.tables apart
moved_apart blocks w Q (Some reported, new) came apart =
    let grows = blocks came.before reported.event (reported.answer, came.after) came.stepped in
    apart_before w.tables reported.device came.before came.after came.is grows (subst (λ (x : World). AreApart x.tables) came.leaves apart)

-- ---- tables from a moment on

-- the later table of a device: its blocks go on from those that it had, and its number has not fallen
pub record GrewTo (t : DeviceTable) (later : List DeviceTable) (device : ℕ) : Type 0 where
  pub table : DeviceTable
  pub there : slice_get later device ≡ Some table
  pub blocks : Extends (ids_of t) (ids_of table)
  pub counts : next_id_of t ≤ next_id_of table

abbrev pub Grew : List DeviceTable → List DeviceTable → Type 0
Grew tables later = (device : ℕ) (t : DeviceTable) → slice_get tables device ≡ Some t → GrewTo t later device

pub grew_itself : (tables : List DeviceTable) → Grew tables tables
grew_itself tables = λ device t at. record { table = t; there = at; blocks = extends_itself (ids_of t); counts = omega arith }

grew_step : (b : Bool) (tables : List DeviceTable) (place device : ℕ) (x u t : DeviceTable) → (device == place) ≡ b → slice_get tables place ≡ Some x → Extends (ids_of x) (ids_of u) → next_id_of x ≤ next_id_of u → GrewTo t tables device → GrewTo t (set tables place u) device
grew_step true tables place device x u t is at grows counts g =
    let same = eqb-true device place is in
    let own : g.table ≡ x = same_Some g.table x (sym g.there ∙ ap (slice_get tables) same ∙ at) in
    let number : next_id_of g.table ≡ next_id_of x = ap next_id_of own in
    let before = g.counts in
    record {
      table = u;
      there = ap (slice_get (set tables place u)) same ∙ set_own tables place x u at;
      blocks = extends_on (ids_of t) (ids_of g.table) (ids_of u) g.blocks (subst (λ (y : DeviceTable). Extends (ids_of y) (ids_of u)) (sym own) grows);
      counts = omega (arith, before, counts, number);
    }
grew_step false tables place device x u t is at grows counts g =
    record { table = g.table; there = set_other tables place device u (eqb-false device place is) ∙ g.there; blocks = g.blocks; counts = g.counts }

moved_grew : StepLaws → (Q : List ℕ → Type 0) (tables : List DeviceTable) (w : World) (moved : Option ReportedEvent × World) → Moves Q w moved → Grew tables w.tables → Grew tables moved.1.tables
moved_grew laws Q tables w (None, new) rests grew = λ device t at.
    let g = grew device t at in
    record { table = g.table; there = ap (λ (l : List DeviceTable). slice_get l device) rests.tables ∙ g.there; blocks = g.blocks; counts = g.counts }
moved_grew laws Q tables w (Some reported, new) came grew = λ device t at.
    let counts = laws.counts came.before reported.event (reported.answer, came.after) came.stepped in
    let grows = laws.blocks came.before reported.event (reported.answer, came.after) came.stepped in
    let now : new.tables ≡ set w.tables reported.device came.after = ap (λ (x : World). x.tables) came.leaves in
    subst (λ (l : List DeviceTable). GrewTo t l device) (sym now)
    (grew_step (device == reported.device) w.tables reported.device device came.before came.after t refl came.is grows counts (grew device t at))

record GrewSo (q : Openings) (tables : List DeviceTable) (story : Story) : Type 0 where
  drawn : Drawn q story.world
  grew : Grew tables story.world.tables

act_grew : StepLaws → (q : Openings) (tables : List DeviceTable) (story : Story) (said : Happened) → GrewSo q tables story → IfOk said (Moves (IsDrawnFrame story.world.tables) story.world) → IfOk (goes_on story.reported said) (GrewSo q tables)
act_grew laws q tables story (Err fault) so moves = tt
act_grew laws q tables story (Ok moved) so moves =
    record { drawn = moved_drawn laws q story.world moved so.drawn moves; grew = moved_grew laws (IsDrawnFrame story.world.tables) tables story.world moved moves so.grew }

pub runs_grew : StepLaws → (q : Openings) (was now : Story) (acts : List Act) → runs (Ok was) acts ≡ Ok now → Drawn q was.world → Grew was.world.tables now.world.tables
runs_grew laws q was now acts ran drawn =
    let tables = was.world.tables in
    let so : GrewSo q was.world.tables now = subst (λ (r : Result Story ActFault). IfOk r (GrewSo q was.world.tables)) ran
    (runs_keep (GrewSo q was.world.tables) (λ story act is. act_grew laws q was.world.tables story (happens story.world act) is (act_moves (IsDrawnFrame story.world.tables) story.world act is.drawn.streams)) acts (Ok was)
    (record { drawn = drawn; grew = grew_itself was.world.tables })) in
    so.grew

-- ---- of all opening numbers

pub all_drawn : (w : World) → IdsAreDrawn w → Drawn (λ device opening. true) w
all_drawn w is = record { whole = is.whole; tables = is.tables; class3 = is.class3; opens = λ device t at n from. refl; sent = is.sent; streams = is.streams; plain = is.plain }

pub drawn_all : (w : World) → Drawn (λ device opening. true) w → IdsAreDrawn w
drawn_all w is = record { whole = is.whole; tables = is.tables; class3 = is.class3; sent = is.sent; streams = is.streams; plain = is.plain }

pub schedules_keep : StepLaws → SchedulesKeepIdsDrawn
schedules_keep laws start acts story ran is =
    drawn_all story.world (runs_drawn laws (λ device opening. true) (record { world = start; reported = [] }) story acts ran (all_drawn start is))
