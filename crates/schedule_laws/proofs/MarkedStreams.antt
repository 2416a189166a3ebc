-- Over every schedule the streams of a device's table, and what it sends over streams, follow the marks that it received.
use Rattle.std.proofs.Common.{◌≡◌, ◌≢◌, ◌⊎◌, inl, inr, ℕ, zero, suc, ◌==◌, ◌||◌, Bool, true, false, List, [], ◌∷◌, ◌++◌, map, set, slice_get, Option, Some, None, Result, Ok, Err, IfOk, refl, sym, ◌∙◌, ap, subst, eqb-true}
use Rattle.std.specs.List.{AllByRecursion, Contains, list_any}
use Rattle.std.proofs.lemmas.Option.{same_Some}
use Rattle.std.proofs.lemmas.Bool.{or_cases, or_left, or_right, and_from}
use Rattle.base_lemmas.specs.Numbers.{number_same}
use Rattle.cip_events.specs.declared.event.Answer.{Answer}
use Rattle.cip_events.specs.declared.event.Event.{Event}
use Rattle.cip_events.specs.declared.event.Event.TheVariants as event
use Rattle.cip_events.specs.declared.event.Frame.{Frame}
use Rattle.cip_types.specs.declared.names.Node.{Node}
use Rattle.adapter_table.specs.declared.table.AdapterTable.{AdapterTable}
use Rattle.adapter_table.specs.declared.table.Stream as adapter_stream
use Rattle.adapter_table.specs.Step.{adapter_step}
use Rattle.adapter_table.specs.Streams as adapters
use Rattle.scanner_table.specs.declared.table.ScannerTable.{ScannerTable}
use Rattle.scanner_table.specs.declared.table.TargetStream.{TargetStream}
use Rattle.scanner_table.specs.Sessions as scanners
use Rattle.scanner_table.specs.Step.{scanner_step}
use Rattle.cip_tables.specs.declared.table.Config.{Config}
use Rattle.cip_tables.specs.declared.table.Config.TheVariants as config
use Rattle.cip_tables.specs.declared.table.DeviceTable.{DeviceTable}
use Rattle.cip_tables.specs.declared.table.DeviceTable.TheVariants.{Adapter, Scanner}
use Rattle.cip_tables.specs.Step.{opening_table, step}
use Rattle.cip_tables.specs.Whole.{IsWholeDevice}
use Rattle.segment_world.specs.declared.act.Act.{Act}
use Rattle.segment_world.specs.declared.act.ActFault.{ActFault}
use Rattle.segment_world.specs.Configs.{opening_world}
use Rattle.segment_world.specs.World.{World, ReportedEvent, Happened, happens}
use Rattle.device_laws.specs.RowIds as rows
use Rattle.device_laws.specs.RowIds.{ConnectionsKeepTheirIds}
use Rattle.device_laws.specs.OwnStreams.{has_stream, opens_stream, GoesOverItsOwn, DevicesSendOverTheirStreams}
use Rattle.device_laws.specs.TargetStreams as targets
use Rattle.device_laws.specs.TargetStreams.{StreamsComeWithEvents}
use Rattle.schedule_laws.specs.Ids.{IdsAreDrawn, SchedulesKeepIdsDrawn, OpeningWorldsHaveIdsDrawn}
use Rattle.schedule_laws.specs.Lemmas.Drawing.{StepLaws}
use Rattle.schedule_laws.specs.Lemmas.Tests.{set_cases}
use Rattle.device_laws.specs.Lemmas.Lists.{all_more}
use Rattle.schedule_laws.specs.Chronicle.{Chronicle, with_event_at, recorded, blank}
use Rattle.schedule_laws.specs.Marks.{is_mark, WasMarked, FollowsMark, SchedulesFollowMarks}
use Rattle.schedule_laws.specs.Order.{IsChronicle}
use Rattle.schedule_laws.specs.Lemmas.Entries.{DeviceStays, step_stays}
use Rattle.schedule_laws.specs.Lemmas.NameActs.{adapter_result, scanner_result}
use Rattle.schedule_laws.proofs.OneConnection.{first_or_rest, none_in}
use Rattle.schedule_laws.specs.Lemmas.ProducedActs.{ActsKeep, chronicles_keep, drawn_on}
use Rattle.schedule_laws.proofs.UsedOnce.{event_counts, rest_counts, no_test}

-- what is known of the steps of devices
pub record MarkLaws : Type 0 where
  pub steps : StepLaws
  pub sending : DevicesSendOverTheirStreams
  pub rows : ConnectionsKeepTheirIds
  pub streams : StreamsComeWithEvents

-- ---- tests of lists

any_left : {X : Type 0} (p : X → Bool) (xs ys : List X) → list_any p xs ≡ true → list_any p (xs ++ ys) ≡ true
any_left p [] ys is = absurd (let e = is in cc)
any_left p (x ∷ xs) ys is = first (p x) (list_any p xs) (list_any p (xs ++ ys)) is (any_left p xs ys) where
  first : (a b c : Bool) → (a || b) ≡ true → (b ≡ true → c ≡ true) → (a || c) ≡ true
  first true b c either on = refl
  first false b c either on = on either

any_last : {X : Type 0} (p : X → Bool) (xs : List X) (x : X) → p x ≡ true → list_any p (xs ++ x ∷ []) ≡ true
any_last p [] x is = rw is refl
any_last p (y ∷ xs) x is = or_right (p y) (list_any p (xs ++ x ∷ [])) (any_last p xs x is)

-- an element that passes
contained : {X : Type 0} (p : X → Bool) (xs : List X) (x : X) → Contains xs x → p x ≡ true → list_any p xs ≡ true
contained p [] x there passes = none_in x there
contained p (z ∷ xs) x there passes = by_case (first_or_rest z x xs there) (λ rest. contained p xs x rest passes) where
  by_case : (z ≡ x) ⊎ Contains xs x → (Contains xs x → list_any p xs ≡ true) → list_any p (z ∷ xs) ≡ true
  by_case (inl is) on = or_left (p z) (list_any p xs) (ap p is ∙ passes)
  by_case (inr rest) on = or_right (p z) (list_any p xs) (on rest)

-- what holds of each holds of one that passes
all_passing : {X : Type 0} (P : X → Type 0) (p : X → Bool) (G : Type 0) (xs : List X) → ((x : X) → P x → p x ≡ true → G) → AllByRecursion P xs → list_any p xs ≡ true → G
all_passing P p G [] goes all is = absurd (let e = is in cc)
all_passing P p G (x ∷ xs) goes all is = by_case (or_cases (p x) (list_any p xs) is) (all_passing P p G xs goes all.1) where
  by_case : (p x ≡ true) ⊎ (list_any p xs ≡ true) → (list_any p xs ≡ true → G) → G
  by_case (inl passes) on = goes x all.0 passes
  by_case (inr rest) on = on rest

-- ---- a step of a device

-- a stream of the next table was open, or the event opens it
abbrev StreamCame : DeviceTable → Event → ℕ → Type 0
StreamCame t happens number = (has_stream t number ≡ true) ⊎ (opens_stream number happens ≡ true)

opens_it : (happens : Event) (number stream : ℕ) (peer : Node) → happens ≡ event.StreamOpened stream peer → stream ≡ number → opens_stream number happens ≡ true
opens_it happens number stream peer is same = ap (opens_stream number) is ∙ ap (λ (n : ℕ). n == number) same ∙ number_same number

adapter_came : (t : AdapterTable) (happens : Event) (number : ℕ) (s : adapter_stream.Stream) → rows.StreamCame t happens s → adapters.is_stream number s ≡ true → StreamCame (Adapter t) happens number
adapter_came t happens number s (inl was) is =
    inl (contained (adapters.is_stream number) t.streams was.old was.there (ap (λ (n : ℕ). n == number) (sym was.number) ∙ is))
adapter_came t happens number s (inr by) is = inr (opens_it happens number s.number s.peer by (eqb-true s.number number is))

scanner_came : (t : ScannerTable) (happens : Event) (number : ℕ) (s : TargetStream) → targets.StreamCame t happens s → scanners.is_stream number s ≡ true → StreamCame (Scanner t) happens number
scanner_came t happens number s (inl was) is =
    inl (contained (scanners.is_stream number) t.streams was.old was.there (ap (λ (n : ℕ). n == number) (sym was.number) ∙ is))
scanner_came t happens number s (inr by) is = inr (opens_it happens number s.number s.peer by (eqb-true s.number number is))

came_by : MarkLaws → (t u : DeviceTable) (happens : Event) (answer : Answer) (number : ℕ) → step t happens ≡ Ok (answer, u) → DeviceStays t u → IsWholeDevice t → has_stream u number ≡ true → StreamCame t happens number
unfolding step
came_by laws (Adapter t) (Adapter u) happens answer number is stays whole has =
    let came = laws.rows t happens answer u (adapter_result (adapter_step t happens) answer u is) whole in
    all_passing (rows.StreamCame t happens) (adapters.is_stream number) (StreamCame (Adapter t) happens number) u.streams (adapter_came t happens number) came.streams has
came_by laws (Scanner t) (Scanner u) happens answer number is stays whole has =
    all_passing (targets.StreamCame t happens) (scanners.is_stream number) (StreamCame (Scanner t) happens number) u.streams (scanner_came t happens number)
    (laws.streams t happens answer u (scanner_result (scanner_step t happens) answer u is) whole) has
came_by laws (Adapter t) (Scanner u) happens answer number is stays whole has = absurd stays
came_by laws (Scanner t) (Adapter u) happens answer number is stays whole has = absurd stays

-- ---- marks

marked_later : (events : List ReportedEvent) (device number : ℕ) (reported : ReportedEvent) → WasMarked events device number → WasMarked (events ++ reported ∷ []) device number
marked_later events device number reported is = any_left (is_mark device number) events (reported ∷ []) is

marked_now : (events : List ReportedEvent) (number : ℕ) (reported : ReportedEvent) → opens_stream number reported.event ≡ true → WasMarked (events ++ reported ∷ []) reported.device number
marked_now events number reported is =
    any_last (is_mark reported.device number) events reported (and_from (reported.device == reported.device) (opens_stream number reported.event) (number_same reported.device) is)

marked_so : (t : DeviceTable) (events : List ReportedEvent) (number : ℕ) (reported : ReportedEvent) → (has_stream t number ≡ true → WasMarked events reported.device number) → StreamCame t reported.event number → WasMarked (events ++ reported ∷ []) reported.device number
marked_so t events number reported marked (inl has) = marked_later events reported.device number reported (marked has)
marked_so t events number reported marked (inr opens) = marked_now events number reported opens

-- ---- an act

abbrev TablesAreMarked : World → List ReportedEvent → Type 0
TablesAreMarked w events = (device : ℕ) (t : DeviceTable) (number : ℕ) → slice_get w.tables device ≡ Some t → has_stream t number ≡ true → WasMarked events device number

record MarkedIn (c : Chronicle) : Type 0 where
  drawn : IdsAreDrawn c.story.world
  marked : TablesAreMarked c.story.world c.story.reported

event_marked : MarkLaws → (w new : World) (events : List ReportedEvent) (reported : ReportedEvent) (t u : DeviceTable) → slice_get w.tables reported.device ≡ Some t → step t reported.event ≡ Ok (reported.answer, u) → new.tables ≡ set w.tables reported.device u → IsWholeDevice t → TablesAreMarked w events → TablesAreMarked new (events ++ reported ∷ [])
event_marked laws w new events reported t u at stepped tables whole marked device v number there has =
    by_case (set_cases w.tables reported.device device t u v at (ap (λ (ts : List DeviceTable). slice_get ts device) (sym tables) ∙ there))
  where
    by_case : ((device ≡ reported.device) × (v ≡ u)) ⊎ ((device ≢ reported.device) × (slice_get w.tables device ≡ Some v)) → WasMarked (events ++ reported ∷ []) device number
    by_case (inl own) =
        let stays = step_stays laws.steps t reported.event reported.answer u stepped in
        let so : has_stream u number ≡ true = subst (λ (x : DeviceTable). has_stream x number ≡ true) own.1 has in
        subst (λ (n : ℕ). WasMarked (events ++ reported ∷ []) n number) (sym own.0)
        (marked_so t events number reported (marked reported.device t number at) (came_by laws t u reported.event reported.answer number stepped stays whole so))
    by_case (inr other) = marked_later events device number reported (marked device v number other.1 has)

marked_at : (c : Chronicle) (act : Act) (reported : ReportedEvent) (new : World) (found : Option DeviceTable) → IdsAreDrawn new → TablesAreMarked new (c.story.reported ++ reported ∷ []) → MarkedIn (with_event_at c act reported new found)
marked_at c act reported new None drawn marked = record { drawn = drawn; marked = marked }
marked_at c act reported new (Some t) drawn marked = record { drawn = drawn; marked = marked }

whole_at : (w : World) (device : ℕ) (t : DeviceTable) → IdsAreDrawn w → slice_get w.tables device ≡ Some t → IsWholeDevice t
whole_at w device t drawn at = drawn.whole device t at

by_act : MarkLaws → SchedulesKeepIdsDrawn → (c : Chronicle) (act : Act) (said : Happened) → happens c.story.world act ≡ said → MarkedIn c → IfOk (recorded c act said) MarkedIn
by_act laws keep c act (Err why) is at = tt
by_act laws keep c act (Ok (None, new)) is at =
    let rests = rest_counts c.story.world act new is no_test in
    record {
      drawn = drawn_on keep c.story.world act None new is at.drawn;
      marked = λ device t number there has. at.marked device t number (ap (λ (ts : List DeviceTable). slice_get ts device) (sym rests.tables) ∙ there) has;
    }
by_act laws keep c act (Ok (Some reported, new)) is at =
    let m = event_counts c.story.world act reported new is no_test in
    marked_at c act reported new (slice_get c.story.world.tables reported.device) (drawn_on keep c.story.world act (Some reported) new is at.drawn)
    (event_marked laws c.story.world new c.story.reported reported m.before m.after m.is m.stepped m.tables (whole_at c.story.world reported.device m.before at.drawn m.is) at.marked)

marks_keep : MarkLaws → SchedulesKeepIdsDrawn → ActsKeep MarkedIn
marks_keep laws keep c act at = by_act laws keep c act (happens c.story.world act) refl at

-- ---- the law

fresh_none : (made : Config) (number : ℕ) → has_stream (opening_table made) number ≡ false
fresh_none (config.Adapter profile) number = refl
fresh_none (config.Scanner profile) number = refl

begins_marked : (configs : List Config) (n device number : ℕ) (t : DeviceTable) → slice_get (map opening_table configs) n ≡ Some t → has_stream t number ≡ true → WasMarked [] device number
begins_marked [] n device number t at has = absurd (let e = at in cc)
begins_marked (made ∷ configs) zero device number t at has =
    absurd (let none : has_stream t number ≡ false = ap (λ (x : DeviceTable). has_stream x number) (sym (same_Some (opening_table made) t at)) ∙ fresh_none made number in let e = sym none ∙ has in cc)
begins_marked (made ∷ configs) (suc n) device number t at has = begins_marked configs n device number t at has

schedule_marked : MarkLaws → SchedulesKeepIdsDrawn → OpeningWorldsHaveIdsDrawn → (configs : List Config) (acts : List Act) (c : Chronicle) → IsChronicle configs acts c → MarkedIn c
schedule_marked laws keep opens configs acts c is =
    subst (λ (r : Result Chronicle ActFault). IfOk r MarkedIn) is.ran
    (chronicles_keep MarkedIn (marks_keep laws keep) acts (Ok (blank (opening_world configs)))
    (record { drawn = opens configs is.lives; marked = λ device t number at has. begins_marked configs device device number t at has }))

frame_marked : (t : DeviceTable) (events : List ReportedEvent) (reported : ReportedEvent) → ((number : ℕ) → has_stream t number ≡ true → WasMarked events reported.device number) → (frame : Frame) → GoesOverItsOwn t reported.event frame → FollowsMark (events ++ reported ∷ []) reported.device frame
frame_marked t events reported marked frame goes = λ number to. marked_so t events number reported (marked number) (or_cases (has_stream t number) (opens_stream number reported.event) (goes number to))

pub streams_follow_marks : MarkLaws → SchedulesKeepIdsDrawn → OpeningWorldsHaveIdsDrawn → SchedulesFollowMarks
streams_follow_marks laws keep opens configs acts c is =
    let all = schedule_marked laws keep opens configs acts c is in
    record {
      tables = all.marked;
      frames = λ act reported new said.
          let m = event_counts c.story.world act reported new said no_test in
          all_more (GoesOverItsOwn m.before reported.event) (FollowsMark (c.story.reported ++ reported ∷ []) reported.device)
          (frame_marked m.before c.story.reported reported (λ number. all.marked reported.device m.before number m.is)) reported.answer.frames
          (laws.sending m.before reported.event reported.answer m.after m.stepped (whole_at c.story.world reported.device m.before all.drawn m.is));
    }
