-- Each act keeps that an id of a scanner is used once at most.
use Rattle.std.proofs.Common.{◌≡◌, ◌≢◌, ◌≤◌, ◌<◌, ◌⊎◌, inl, inr, ℕ, ◌+◌, ◌==◌, nat_lt, Bool, true, false, cond, List, [], ◌∷◌, ◌++◌, find, set, slice_get, Option, Some, None, Result, Ok, Err, IfOk, refl, sym, ◌∙◌, ap, subst, arith, eqb-true}
use Rattle.std.specs.Prelude.{min}
use Rattle.std.specs.List.{AllByRecursion, count_by}
use Rattle.std.proofs.lemmas.Bool.{eqb-false}
use Rattle.std.proofs.lemmas.Bool.Decides.{nat_tests}
use Rattle.std.proofs.lemmas.Option.{same_Some}
use Rattle.device_laws.specs.Lemmas.Stepping.{device_stepped}
use Rattle.base_lemmas.specs.Lists.{count_cons, set_other, set_own, count_both, found_passes}
use Rattle.cip_types.specs.IdLaws.{ids_fit}
use Rattle.cip_types.specs.Ids.{Extends, end_number, id_at}
use Rattle.cip_types.specs.declared.names.ConnId.{ConnId}
use Rattle.cip_encap.specs.Reading.{message_reading}
use Rattle.cip_events.specs.declared.event.Answer.{Answer}
use Rattle.cip_events.specs.declared.event.Event.{Event}
use Rattle.cip_events.specs.declared.event.Event.TheVariants as event
use Rattle.cip_events.specs.declared.event.Frame.{Frame}
use Rattle.adapter_table.specs.Connections.{Row}
use Rattle.adapter_table.specs.declared.table.AdapterTable.{AdapterTable}
use Rattle.adapter_table.specs.Newest.{was_opened_as}
use Rattle.adapter_table.specs.Step.{adapter_step}
use Rattle.scanner_table.specs.declared.table.ScannerTable.{ScannerTable}
use Rattle.cip_tables.specs.declared.table.Config.{Config}
use Rattle.cip_tables.specs.declared.table.DeviceTable.{DeviceTable}
use Rattle.cip_tables.specs.declared.table.DeviceTable.TheVariants.{Adapter, Scanner}
use Rattle.cip_tables.specs.Run.{table_of}
use Rattle.cip_tables.specs.Step.{step}
use Rattle.cip_tables.specs.Whole.{ids_of, next_id_of}
use Rattle.segment_world.specs.World.{World, ReportedEvent, Happened, happens}
use Rattle.segment_world.specs.Configs.{opening_world}
use Rattle.segment_world.specs.declared.act.Act.{Act}
use Rattle.segment_world.specs.declared.act.ActFault.{ActFault}
use Rattle.device_laws.specs.Carrying.{Passes}
use Rattle.device_laws.specs.Ids.{RowIds}
use Rattle.device_laws.specs.Lemmas.Lists.{all_more}
use Rattle.device_laws.specs.Lemmas.Numbered.{IsNumbered, between_numbered, one_number}
use Rattle.device_laws.specs.Frames.{IsNoOpening}
use Rattle.device_laws.specs.Plain.{ArePlain}
use Rattle.device_laws.specs.Replies.{IsLateReply, IsAnswerTo, RepliesCarryOpenedIds}
use Rattle.device_laws.specs.Requests.{asks_id, frame_asks, is_between, ScannersAskOnce, IsOldOrRequested, IsOwnId, NewConnectionsAreRequested}
use Rattle.device_laws.specs.Lemmas.RequestedIds.{none_requested, one_at_most}
use Rattle.schedule_laws.specs.Ids.{any_opening, any_stream, is_drawn, AreDrawnApart, IdsAreDrawn, SchedulesKeepIdsDrawn, OpeningWorldsHaveIdsDrawn}
use Rattle.schedule_laws.specs.Lives.{AreApart, HasNumber}
use Rattle.schedule_laws.specs.Lemmas.Acts.{WhereApart}
use Rattle.schedule_laws.specs.Lemmas.Numbers.{IsOne, drawn_number, id_later, number_later, one_id}
use Rattle.schedule_laws.specs.Lemmas.Drawing.{StepLaws}
use Rattle.schedule_laws.specs.Lemmas.Tests.{DrawnBy, drawn_at, drawn_cases, drawn_more, set_cases, whole_begins, whole_blocks, whole_in_range}
use Rattle.device_laws.specs.Productions.{End}
use Rattle.schedule_laws.specs.Chronicle.{Opened, requester, opened_for, frame_opens, Chronicle, with_event_at, recorded, blank}
use Rattle.schedule_laws.specs.MadeOnce.{waiting_count, has_id, uses, IdsAreUsedOnce, SchedulesUseIdsOnce}
use Rattle.schedule_laws.specs.Lemmas.Entries.{DeviceStays, step_stays}
use Rattle.schedule_laws.specs.Lemmas.Found.{found_holds}
use Rattle.schedule_laws.specs.Lemmas.NameActs.{adapter_result}
use Rattle.schedule_laws.specs.Lemmas.ProducedActs.{ApartActsKeep, apart_keeps, chronicles_keep, drawn_on}
use Rattle.schedule_laws.proofs.WaitingCounts.{Test, none_waits, passes, event_count, IsInSchedule, EventCounts, RestCounts, ActCounts, act_counts}

-- what is known of the steps of devices
pub record OnceLaws : Type 0 where
  pub steps : StepLaws
  pub asks : ScannersAskOnce
  pub replies : RepliesCarryOpenedIds
  pub requested : NewConnectionsAreRequested

-- ---- numbers

pub below_or_not : (k n : ℕ) → (k < n) ⊎ (n ≤ k)
below_or_not k n = split (nat_lt k n) refl where
  split : (b : Bool) → nat_lt k n ≡ b → (k < n) ⊎ (n ≤ k)
  split true is = inl (grind (arith, nat_tests))
  split false is = inr (grind (arith, nat_tests))

one_most : (b : Bool) → cond b 1 0 ≤ 1
one_most true = omega arith
one_most false = omega arith

no_one : (b : Bool) → (b ≡ true → ⊥) → cond b 1 0 ≤ 0
no_one true never = absurd (never refl)
no_one false never = omega arith

-- an id of a device is not 0
not_zero : (w : World) (device : ℕ) (t : DeviceTable) (n : ℕ) → IdsAreDrawn w → slice_get w.tables device ≡ Some t → HasNumber t n → (id_at (ids_of t) n).0 ≢ 0
not_zero w device t n drawn at has = λ is.
    let ends = has.ends in
    let some = (ids_fit (ids_of t) n (whole_blocks t (drawn.whole device t at)) has.begins (omega (arith, ends))).0 in
    absurd (omega (arith, some, is))

-- no device has drawn the id of a number that is still to come
to_come : (w : World) (device : ℕ) (t : DeviceTable) (n : ℕ) → AreDrawnApart w → slice_get w.tables device ≡ Some t → next_id_of t ≤ n → HasNumber t n → is_drawn w.tables (id_at (ids_of t) n).0 ≡ false
to_come w device t n known at from has = by_test (is_drawn w.tables (id_at (ids_of t) n).0) refl where
  never : ((id_at (ids_of t) n).0 ≡ 0) ⊎ DrawnBy w.tables (id_at (ids_of t) n).0 → ⊥
  never (inl none) = not_zero w device t n known.ids at has none
  never (inr by) =
      let which = by.numbered in
      let one : IsOne device by.device n which.number =
      one_id w device by.device t by.table n which.number known.ids known.apart at by.there has (drawn_number w by.device by.table which.number known.ids by.there which.begins which.ends) (sym which.is) in
      let same : by.table ≡ t = same_Some by.table t (sym by.there ∙ ap (slice_get w.tables) (sym one.device) ∙ at) in
      let next = ap next_id_of same in
      let number = one.number in
      let below = which.ends in
      absurd (omega (arith, from, number, below, next))

  by_test : (b : Bool) → is_drawn w.tables (id_at (ids_of t) n).0 ≡ b → is_drawn w.tables (id_at (ids_of t) n).0 ≡ false
  by_test true passes = absurd (never (drawn_cases w.tables (id_at (ids_of t) n).0 passes))
  by_test false is = is

-- ---- an event

-- an event of a device, which answers it
pub record OneStep (w new : World) (device : ℕ) (t u : DeviceTable) (happens : Event) (answer : Answer) : Type 0 where
  pub at : slice_get w.tables device ≡ Some t
  pub stepped : step t happens ≡ Ok (answer, u)
  pub tables : new.tables ≡ set w.tables device u
  pub stays : DeviceStays t u
  pub possible : IsInSchedule happens
  pub counts : (p : Test) → waiting_count p new.streams + event_count p happens ≤ waiting_count p w.streams + count_by (passes p) answer.frames
  pub drawn : IdsAreDrawn w
  pub next_drawn : IdsAreDrawn new
  pub apart : AreApart new.tables

-- an id is used more only by the frames of the answer, where each new connection was asked for
uses_more : (w new : World) (device : ℕ) (t u : DeviceTable) (happens : Event) (answer : Answer) (id : ℕ) (opened more : List Opened) → OneStep w new device t u happens answer → count_by (has_id id) more ≤ event_count (asks_id id) happens → uses id new.streams (opened ++ more) ≤ uses id w.streams opened + count_by (frame_asks id) answer.frames
unfolding uses
uses_more w new device t u happens answer id opened more s less =
    let count = s.counts (asks_id id) in
    let both = count_both (has_id id) opened more in
    omega (arith, count, both, less)

-- what no device has drawn is not used, and what a scanner has drawn is used once at most
pub record AreUsed (w : World) (opened : List Opened) : Type 0 where
  pub once : (device : ℕ) (t : ScannerTable) (number : ℕ) → slice_get w.tables device ≡ Some (Scanner t) → 1 ≤ number → number < t.next_id → uses (id_at t.ids number).0 w.streams opened ≤ 1
  pub unused : (id : ℕ) → id ≢ 0 → is_drawn w.tables id ≡ false → uses id w.streams opened ≡ 0

-- what no device has drawn after the event none had drawn before it
undrawn_before : OnceLaws → (w new : World) (device : ℕ) (t u : DeviceTable) (happens : Event) (answer : Answer) (id : ℕ) → OneStep w new device t u happens answer → is_drawn new.tables id ≡ false → is_drawn w.tables id ≡ false
undrawn_before laws w new device t u happens answer id s none = by_test (is_drawn w.tables id) refl where
  by_test : (b : Bool) → is_drawn w.tables id ≡ b → is_drawn w.tables id ≡ false
  by_test true passes =
      let steps = laws.steps in
      let drawn = s.drawn in
      let now = drawn_more w.tables device t u id s.at (whole_in_range t (drawn.whole device t s.at)) (steps.blocks t happens (answer, u) s.stepped) (steps.counts t happens (answer, u) s.stepped) passes in
      absurd (let e = sym none ∙ ap (λ (ts : List DeviceTable). is_drawn ts id) s.tables ∙ now in cc)
  by_test false is = is

-- ---- an event of a scanner

-- the id for which a frame of the answer asks is one that the scanner has drawn at the event
requested_number : (t u : ScannerTable) (id : ℕ) → Extends t.ids u.ids → 1 ≤ t.next_id → is_between t.ids t.next_id (min u.next_id (end_number t.ids)) id ≡ true → IsNumbered u.ids t.next_id u.next_id id
requested_number t u id blocks one asks =
    let which = between_numbered t.ids t.next_id (min u.next_id (end_number t.ids)) id asks in
    let begins = which.begins in
    let ends = which.ends in
    let has : HasNumber (Scanner t) which.number = record { begins = omega (arith, one, begins); ends = omega (arith, ends) } in
    record {
      number = which.number;
      begins = which.begins;
      ends = omega (arith, ends);
      is = ap (λ (x : ConnId). x.0) (id_later (Scanner t) (Scanner u) which.number blocks has) ∙ which.is;
    }

scanner_frames : OnceLaws → (w new : World) (device : ℕ) (t u : ScannerTable) (happens : Event) (answer : Answer) → OneStep w new device (Scanner t) (Scanner u) happens answer → (id : ℕ) → id ≢ 0 → count_by (frame_asks id) answer.frames ≤ cond (is_between t.ids t.next_id (min u.next_id (end_number t.ids)) id) 1 0
scanner_frames laws w new device t u happens answer s id some =
    let drawn = s.drawn in
    laws.asks t happens answer u id (device_stepped t u happens answer s.stepped) (drawn.whole device (Scanner t) s.at) some

-- no frame of the answer asks for an id that the scanner has not drawn at the event
no_frames : OnceLaws → (w new : World) (device : ℕ) (t u : ScannerTable) (happens : Event) (answer : Answer) → OneStep w new device (Scanner t) (Scanner u) happens answer → (id : ℕ) → id ≢ 0 → (IsNumbered u.ids t.next_id u.next_id id → ⊥) → count_by (frame_asks id) answer.frames ≤ 0
no_frames laws w new device t u happens answer s id some never =
    let steps = laws.steps in
    let drawn = s.drawn in
    let frames = scanner_frames laws w new device t u happens answer s id some in
    let none = no_one (is_between t.ids t.next_id (min u.next_id (end_number t.ids)) id) (λ asks.
    never (requested_number t u id (steps.blocks (Scanner t) happens (answer, Scanner u) s.stepped) (whole_begins (Scanner t) (drawn.whole device (Scanner t) s.at)) asks)) in
    omega (arith, frames, none)

-- an id that was drawn before the event
old_uses : OnceLaws → (w new : World) (device : ℕ) (t u : ScannerTable) (happens : Event) (answer : Answer) (opened more : List Opened) (k : ℕ) → OneStep w new device (Scanner t) (Scanner u) happens answer → slice_get new.tables device ≡ Some (Scanner u) → more ≡ [] → AreUsed w opened → 1 ≤ k → k < t.next_id → uses (id_at u.ids k).0 new.streams (opened ++ more) ≤ 1
old_uses laws w new device t u happens answer opened more k s after none used begins less =
    let steps = laws.steps in
    let next_drawn = s.next_drawn in
    let blocks = steps.blocks (Scanner t) happens (answer, Scanner u) s.stepped in
    let counts = steps.counts (Scanner t) happens (answer, Scanner u) s.stepped in
    let had : HasNumber (Scanner t) k = drawn_number w device (Scanner t) k s.drawn s.at begins less in
    let has = number_later (Scanner t) (Scanner u) k blocks had in
    let same : (id_at u.ids k).0 ≡ (id_at t.ids k).0 = ap (λ (x : ConnId). x.0) (id_later (Scanner t) (Scanner u) k blocks had) in
    let was : uses (id_at u.ids k).0 w.streams opened ≤ 1 = subst (λ (id : ℕ). uses id w.streams opened ≤ 1) (sym same) (used.once device t k s.at begins less) in
    let frames = no_frames laws w new device t u happens answer s (id_at u.ids k).0 (not_zero new device (Scanner u) k next_drawn after has) (λ which.
    let from = which.begins in
    let ends = which.ends in
    let other = drawn_number new device (Scanner u) which.number next_drawn after (omega (arith, begins, less, from)) ends in
    let one = one_number u.ids which.number k (whole_blocks (Scanner u) (next_drawn.whole device (Scanner u) after)) other.begins other.ends has.begins has.ends which.is in
    absurd (omega (arith, one, from, less))) in
    let empty : count_by (has_id (id_at u.ids k).0) more ≤ event_count (asks_id (id_at u.ids k).0) happens = rw none (omega arith) in
    let grows = uses_more w new device (Scanner t) (Scanner u) happens answer (id_at u.ids k).0 opened more s empty in
    omega (arith, was, frames, grows)

-- no device had drawn an id before the event at which the scanner drew it
fresh_before : OnceLaws → (w new : World) (device : ℕ) (t u : ScannerTable) (happens : Event) (answer : Answer) (k : ℕ) → OneStep w new device (Scanner t) (Scanner u) happens answer → slice_get new.tables device ≡ Some (Scanner u) → t.next_id ≤ k → HasNumber (Scanner u) k → is_drawn w.tables (id_at u.ids k).0 ≡ false
fresh_before laws w new device t u happens answer k s after from has = by_test (is_drawn w.tables (id_at u.ids k).0) refl where
  own : DrawnBy w.tables (id_at u.ids k).0 → slice_get w.tables device ≡ Some (Scanner t) → ⊥
  own by at = by_place (by.device == device) refl where
    by_place : (b : Bool) → (by.device == device) ≡ b → ⊥
    by_place true is =
        let steps = laws.steps in
        let next_drawn = s.next_drawn in
        let which = by.numbered in
        let below = which.ends in
        let place = eqb-true by.device device is in
        let table : by.table ≡ Scanner t = same_Some by.table (Scanner t) (sym by.there ∙ ap (slice_get w.tables) place ∙ at) in
        let next = ap next_id_of table in
        let blocks = steps.blocks (Scanner t) happens (answer, Scanner u) s.stepped in
        let had : HasNumber (Scanner t) which.number = drawn_number w device (Scanner t) which.number s.drawn at which.begins (omega (arith, below, next)) in
        let value : (id_at u.ids which.number).0 ≡ (id_at u.ids k).0 =
        ap (λ (x : ConnId). x.0) (id_later (Scanner t) (Scanner u) which.number blocks had) ∙ ap (λ (x : DeviceTable). (id_at (ids_of x) which.number).0) (sym table) ∙ which.is in
        let behind = number_later (Scanner t) (Scanner u) which.number blocks had in
        let one = one_number u.ids which.number k (whole_blocks (Scanner u) (next_drawn.whole device (Scanner u) after)) behind.begins behind.ends has.begins has.ends value in
        absurd (omega (arith, one, below, next, from))
    by_place false is =
        let apart = s.apart in
        let which = by.numbered in
        let differ = eqb-false by.device device is in
        let there : slice_get new.tables by.device ≡ Some by.table = ap (λ (ts : List DeviceTable). slice_get ts by.device) s.tables ∙ set_other w.tables device by.device (Scanner u) differ ∙ by.there in
        absurd (differ (apart.differ by.device device by.table (Scanner u) which.number k there after (drawn_number w by.device by.table which.number s.drawn by.there which.begins which.ends) has which.is))

  never : ((id_at u.ids k).0 ≡ 0) ⊎ DrawnBy w.tables (id_at u.ids k).0 → ⊥
  never (inl none) = not_zero new device (Scanner u) k s.next_drawn after has none
  never (inr by) = own by s.at

  by_test : (b : Bool) → is_drawn w.tables (id_at u.ids k).0 ≡ b → is_drawn w.tables (id_at u.ids k).0 ≡ false
  by_test true passes = absurd (never (drawn_cases w.tables (id_at u.ids k).0 passes))
  by_test false is = is

-- an id that is drawn at the event
new_uses : OnceLaws → (w new : World) (device : ℕ) (t u : ScannerTable) (happens : Event) (answer : Answer) (opened more : List Opened) (k : ℕ) → OneStep w new device (Scanner t) (Scanner u) happens answer → slice_get new.tables device ≡ Some (Scanner u) → more ≡ [] → AreUsed w opened → t.next_id ≤ k → HasNumber (Scanner u) k → uses (id_at u.ids k).0 new.streams (opened ++ more) ≤ 1
new_uses laws w new device t u happens answer opened more k s after none used from has =
    let some = not_zero new device (Scanner u) k s.next_drawn after has in
    let zero = used.unused (id_at u.ids k).0 some (fresh_before laws w new device t u happens answer k s after from has) in
    let frames = scanner_frames laws w new device t u happens answer s (id_at u.ids k).0 some in
    let one = one_most (is_between t.ids t.next_id (min u.next_id (end_number t.ids)) (id_at u.ids k).0) in
    let empty : count_by (has_id (id_at u.ids k).0) more ≤ event_count (asks_id (id_at u.ids k).0) happens = rw none (omega arith) in
    let grows = uses_more w new device (Scanner t) (Scanner u) happens answer (id_at u.ids k).0 opened more s empty in
    omega (arith, zero, frames, one, grows)

-- the uses of an id after an event, by those before it
other_uses : (w new : World) (device : ℕ) (t u : DeviceTable) (happens : Event) (answer : Answer) (opened more : List Opened) (id most : ℕ) → OneStep w new device t u happens answer → count_by (has_id id) more ≤ event_count (asks_id id) happens → count_by (frame_asks id) answer.frames ≤ 0 → uses id w.streams opened ≤ most → uses id new.streams (opened ++ more) ≤ most
other_uses w new device t u happens answer opened more id most s less frames was =
    let grows = uses_more w new device t u happens answer id opened more s less in
    omega (arith, grows, frames, was)

none_left : (n : ℕ) → n ≤ 0 → n ≡ 0
none_left n less = omega (arith, less)

scanner_used : OnceLaws → (w new : World) (device : ℕ) (t u : ScannerTable) (happens : Event) (answer : Answer) (opened : List Opened) → OneStep w new device (Scanner t) (Scanner u) happens answer → slice_get new.tables device ≡ Some (Scanner u) → AreUsed w opened → AreUsed new (opened ++ [])
scanner_used laws w new device t u happens answer opened s after used = record {
  once = λ e x k there begins below. by_place e x k begins below there (set_cases w.tables device e (Scanner t) (Scanner u) (Scanner x) s.at (ap (λ (ts : List DeviceTable). slice_get ts e) (sym s.tables) ∙ there));
  unused = λ id some none.
      let was = used.unused id some (undrawn_before laws w new device (Scanner t) (Scanner u) happens answer id s none) in
      none_left (uses id new.streams (opened ++ []))
      (other_uses w new device (Scanner t) (Scanner u) happens answer opened [] id 0 s (omega arith)
      (no_frames laws w new device t u happens answer s id some (λ which. absurd (let e = sym none ∙ drawn_now id which in cc))) (omega (arith, was)));
}
  where
    inside : (x y : ScannerTable) → Scanner x ≡ Scanner y → x ≡ y
    inside x y e = cc

    drawn_now : (id : ℕ) → IsNumbered u.ids t.next_id u.next_id id → is_drawn new.tables id ≡ true
    drawn_now id which =
        let drawn = s.drawn in
        let one = whole_begins (Scanner t) (drawn.whole device (Scanner t) s.at) in
        let from = which.begins in
        drawn_at new.tables device (Scanner u) id after (record { number = which.number; begins = omega (arith, one, from); ends = which.ends; is = which.is })

    own : (k : ℕ) → 1 ≤ k → k < u.next_id → (k < t.next_id) ⊎ (t.next_id ≤ k) → uses (id_at u.ids k).0 new.streams (opened ++ []) ≤ 1
    own k begins below (inl less) = old_uses laws w new device t u happens answer opened [] k s after refl used begins less
    own k begins below (inr from) = new_uses laws w new device t u happens answer opened [] k s after refl used from (drawn_number new device (Scanner u) k s.next_drawn after begins below)

    by_place : (e : ℕ) (x : ScannerTable) (k : ℕ) → 1 ≤ k → k < x.next_id → slice_get new.tables e ≡ Some (Scanner x) → ((e ≡ device) × (Scanner x ≡ Scanner u)) ⊎ ((e ≢ device) × (slice_get w.tables e ≡ Some (Scanner x))) → uses (id_at x.ids k).0 new.streams (opened ++ []) ≤ 1
    by_place e x k begins below there (inl mine) =
        let same : u ≡ x = sym (inside x u mine.1) in
        subst (λ (y : ScannerTable). uses (id_at y.ids k).0 new.streams (opened ++ []) ≤ 1) same
        (own k begins (subst (λ (y : ScannerTable). k < y.next_id) (sym same) below) (below_or_not k t.next_id))
    by_place e x k begins below there (inr other) =
        let apart = s.apart in
        let has = drawn_number new e (Scanner x) k s.next_drawn there begins below in
        other_uses w new device (Scanner t) (Scanner u) happens answer opened [] (id_at x.ids k).0 1 s (omega arith)
        (no_frames laws w new device t u happens answer s (id_at x.ids k).0 (not_zero new e (Scanner x) k s.next_drawn there has) (λ which.
        let from = which.begins in
        let drawn = s.drawn in
        let one = whole_begins (Scanner t) (drawn.whole device (Scanner t) s.at) in
        let requested = drawn_number new device (Scanner u) which.number s.next_drawn after (omega (arith, one, from)) which.ends in
        absurd (other.0 (sym (apart.differ device e (Scanner u) (Scanner x) which.number k after there requested has which.is)))))
        (used.once e x k other.1 begins below)

-- ---- an event of an adapter

none_of : (id : ℕ) (frames : List Frame) → AllByRecursion (λ (f : Frame). IsNoOpening f.bytes) frames → count_by (frame_asks id) frames ≡ 0
none_of id [] none = refl
none_of id (frame ∷ frames) none =
    let one : cond (asks_id id frame.bytes) 1 0 ≤ 0 = no_one (asks_id id frame.bytes) (none_requested id frame.bytes none.0) in
    let rest = none_of id frames none.1 in
    let both = count_cons (frame_asks id) frame frames in
    omega (arith, one, rest, both)

late_opens_none : (t : AdapterTable) (frame : Frame) → ArePlain any_stream t.messaging → IsLateReply t frame → IsNoOpening frame.bytes
late_opens_none t frame plain (inl is) = absurd (is.over_none plain.over)
late_opens_none t frame plain (inr is) = is.opens_nothing

answers_open_none : (t u : AdapterTable) (happens : Event) (frame : Frame) → IsInSchedule happens → ArePlain any_stream t.messaging → IsAnswerTo t u happens frame → IsNoOpening frame.bytes
answers_open_none t u (event.Request peer bytes) frame possible plain is = absurd possible
answers_open_none t u (event.Frame number bytes) frame possible plain is = is.opens_nothing
answers_open_none t u (event.Inquiry peer bytes) frame possible plain is = is.opens_nothing
answers_open_none t u (event.Respond number status bytes) frame possible plain is = late_opens_none t frame plain is
answers_open_none t u (event.Tick ms) frame possible plain is = late_opens_none t frame plain is
answers_open_none t u other frame possible plain is = absurd is

-- the new connection's T->O id is this one only where the frame asked for it, if it is not one of the adapter's own
row_requested : (t : AdapterTable) (bytes : List ℕ) (row : Row) (id : ℕ) → (IsOwnId t.ids row.t_o_id → row.t_o_id.0 ≡ id → ⊥) → was_opened_as t.next_id row ≡ true → IsOldOrRequested t bytes row → (row.t_o_id.0 == id) ≡ true → asks_id id bytes ≡ true
row_requested t bytes row id never new (inl old) is = let same = eqb-true row.opening t.next_id new in absurd (omega (arith, old, same))
row_requested t bytes row id never new (inr (inl asks)) is = subst (λ (n : ℕ). asks_id n bytes ≡ true) (eqb-true row.t_o_id.0 id is) asks
row_requested t bytes row id never new (inr (inr own)) is = absurd (never own (eqb-true row.t_o_id.0 id is))

opened_count : (device : ℕ) (id : ℕ) (bytes : List ℕ) (found : Option Row) (slot : Option End) → ((row : Row) → found ≡ Some row → (row.t_o_id.0 == id) ≡ true → asks_id id bytes ≡ true) → count_by (has_id id) (opened_for device found slot) ≤ cond (asks_id id bytes) 1 0
opened_count device id bytes None slot requested = omega arith
opened_count device id bytes (Some row) None requested = omega arith
opened_count device id bytes (Some row) (Some slot) requested = let one = one_at_most (row.t_o_id.0 == id) (asks_id id bytes) (requested row refl) in omega (arith, one)

-- the new row's T->O id is not this one of the adapter's own
abbrev NeverOwn : AdapterTable → AdapterTable → ℕ → Type 0
NeverOwn t u id = (row : Row) → find (was_opened_as t.next_id) u.rows ≡ Some row → IsOwnId t.ids row.t_o_id → row.t_o_id.0 ≡ id → ⊥

new_counts : OnceLaws → (w new : World) (device : ℕ) (t u : AdapterTable) (happens : Event) (answer : Answer) (id : ℕ) → OneStep w new device (Adapter t) (Adapter u) happens answer → NeverOwn t u id → count_by (has_id id) (frame_opens w device (Adapter t) happens (Adapter u)) ≤ event_count (asks_id id) happens
unfolding step
new_counts laws w new device t u (event.Frame n bytes) answer id s never =
    let drawn = s.drawn in
    let rows = laws.requested t n bytes answer u (adapter_result (adapter_step t (event.Frame n bytes)) answer u s.stepped) (drawn.whole device (Adapter t) s.at) in
    opened_count device id bytes (find (was_opened_as t.next_id) u.rows) (requester device (slice_get w.streams n) (message_reading bytes))
    (λ row found is. row_requested t bytes row id (never row found) (found_passes (was_opened_as t.next_id) u.rows row found) (found_holds (IsOldOrRequested t bytes) (was_opened_as t.next_id) u.rows row rows found) is)
new_counts laws w new device t u other answer id s never = omega arith

adapter_frames : OnceLaws → (w new : World) (device : ℕ) (t u : AdapterTable) (happens : Event) (answer : Answer) (id : ℕ) → OneStep w new device (Adapter t) (Adapter u) happens answer → count_by (frame_asks id) answer.frames ≤ 0
unfolding step
adapter_frames laws w new device t u happens answer id s =
    let drawn = s.drawn in
    let replies = laws.replies t happens answer u (adapter_result (adapter_step t happens) answer u s.stepped) (drawn.whole device (Adapter t) s.at) in
    let none = none_of id answer.frames (all_more (IsAnswerTo t u happens) (λ (f : Frame). IsNoOpening f.bytes) (λ f is. answers_open_none t u happens f s.possible (drawn.plain device (Adapter t) s.at) is) answer.frames replies) in
    omega (arith, none)

adapter_used : OnceLaws → (w new : World) (device : ℕ) (t u : AdapterTable) (happens : Event) (answer : Answer) (opened : List Opened) → OneStep w new device (Adapter t) (Adapter u) happens answer → slice_get new.tables device ≡ Some (Adapter u) → AreUsed w opened → AreUsed new (opened ++ frame_opens w device (Adapter t) happens (Adapter u))
adapter_used laws w new device t u happens answer opened s after used = record {
  once = λ e x k there begins below. by_place e x k begins below there (set_cases w.tables device e (Adapter t) (Adapter u) (Scanner x) s.at (ap (λ (ts : List DeviceTable). slice_get ts e) (sym s.tables) ∙ there));
  unused = λ id some none.
      let was = used.unused id some (undrawn_before laws w new device (Adapter t) (Adapter u) happens answer id s none) in
      none_left (uses id new.streams (opened ++ frame_opens w device (Adapter t) happens (Adapter u)))
      (goes id 0 (λ row found own is. absurd (let e = sym none ∙ ap (is_drawn new.tables) (sym is) ∙ row_drawn row found in cc)) (omega (arith, was)));
}
  where
    goes : (id most : ℕ) → NeverOwn t u id → uses id w.streams opened ≤ most → uses id new.streams (opened ++ frame_opens w device (Adapter t) happens (Adapter u)) ≤ most
    goes id most never was =
        other_uses w new device (Adapter t) (Adapter u) happens answer opened (frame_opens w device (Adapter t) happens (Adapter u)) id most s (new_counts laws w new device t u happens answer id s never) (adapter_frames laws w new device t u happens answer id s) was

    row_drawn : (row : Row) → find (was_opened_as t.next_id) u.rows ≡ Some row → is_drawn new.tables row.t_o_id.0 ≡ true
    row_drawn row found =
        let next_drawn = s.next_drawn in
        let ids = found_holds (RowIds (Passes (is_drawn new.tables)) (Passes any_opening)) (was_opened_as t.next_id) u.rows row (next_drawn.tables device (Adapter u) after) found in
        ids.t_o

    by_place : (e : ℕ) (x : ScannerTable) (k : ℕ) → 1 ≤ k → k < x.next_id → slice_get new.tables e ≡ Some (Scanner x) → ((e ≡ device) × (Scanner x ≡ Adapter u)) ⊎ ((e ≢ device) × (slice_get w.tables e ≡ Some (Scanner x))) → uses (id_at x.ids k).0 new.streams (opened ++ frame_opens w device (Adapter t) happens (Adapter u)) ≤ 1
    by_place e x k begins below there (inl mine) = absurd (let same = mine.1 in cc)
    by_place e x k begins below there (inr other) =
        goes (id_at x.ids k).0 1 (λ row found own is.
        let apart = s.apart in
        let steps = laws.steps in
        let blocks = steps.blocks (Adapter t) happens (answer, Adapter u) s.stepped in
        let had : HasNumber (Adapter t) own.number = record { begins = own.begins; ends = own.below } in
        let value : (id_at u.ids own.number).0 ≡ (id_at x.ids k).0 = ap (λ (n : ConnId). n.0) (id_later (Adapter t) (Adapter u) own.number blocks had ∙ sym own.is) ∙ is in
        absurd (other.0 (sym (apart.differ device e (Adapter u) (Scanner x) own.number k after there (number_later (Adapter t) (Adapter u) own.number blocks had) (drawn_number new e (Scanner x) k s.next_drawn there begins below) value))))
        (used.once e x k other.1 begins below)

-- ---- an act

event_used : OnceLaws → (w new : World) (device : ℕ) (t u : DeviceTable) (happens : Event) (answer : Answer) (opened : List Opened) → OneStep w new device t u happens answer → AreUsed w opened → AreUsed new (opened ++ frame_opens w device t happens u)
event_used laws w new device t u happens answer opened s used = by_kind t u s (ap (λ (ts : List DeviceTable). slice_get ts device) s.tables ∙ set_own w.tables device t u s.at) where
  by_kind : (t u : DeviceTable) → OneStep w new device t u happens answer → slice_get new.tables device ≡ Some u → AreUsed new (opened ++ frame_opens w device t happens u)
  by_kind (Adapter t) (Adapter u) s after = adapter_used laws w new device t u happens answer opened s after used
  by_kind (Scanner t) (Scanner u) s after = scanner_used laws w new device t u happens answer opened s after used
  by_kind (Adapter t) (Scanner u) s after = absurd s.stays
  by_kind (Scanner t) (Adapter u) s after = absurd s.stays

rest_used : (w new : World) (opened : List Opened) → new.tables ≡ w.tables → ((p : Test) → waiting_count p new.streams ≤ waiting_count p w.streams) → AreUsed w opened → AreUsed new opened
unfolding uses
rest_used w new opened tables less used = record {
  once = λ e x k there begins below.
      let fewer = less (asks_id (id_at x.ids k).0) in
      let was = used.once e x k (ap (λ (ts : List DeviceTable). slice_get ts e) (sym tables) ∙ there) begins below in
      omega (arith, fewer, was);
  unused = λ id some none.
      let fewer = less (asks_id id) in
      let was = used.unused id some (ap (λ (ts : List DeviceTable). is_drawn ts id) (sym tables) ∙ none) in
      omega (arith, fewer, was);
}

pub record OnceIn (c : Chronicle) : Type 0 where
  pub drawn : IdsAreDrawn c.story.world
  pub used : AreUsed c.story.world c.opened

pub event_counts : (w : World) (act : Act) (reported : ReportedEvent) (new : World) → happens w act ≡ Ok (Some reported, new) → (p : Test) → EventCounts p w reported new
event_counts w act reported new is p = subst (λ (said : Happened). IfOk said (ActCounts p w)) is (act_counts p w act)

pub rest_counts : (w : World) (act : Act) (new : World) → happens w act ≡ Ok (None, new) → (p : Test) → RestCounts p w new
rest_counts w act new is p = subst (λ (said : Happened). IfOk said (ActCounts p w)) is (act_counts p w act)

count_of : (p : Test) (w : World) (reported : ReportedEvent) (new : World) → EventCounts p w reported new → waiting_count p new.streams + event_count p reported.event ≤ waiting_count p w.streams + count_by (passes p) reported.answer.frames
count_of p w reported new m = m.count

less_of : (p : Test) (w new : World) → RestCounts p w new → waiting_count p new.streams ≤ waiting_count p w.streams
less_of p w new m = m.count

after_is : (t : DeviceTable) (happens : Event) (answer : Answer) (u : DeviceTable) → step t happens ≡ Ok (answer, u) → table_of t (step t happens) ≡ u
after_is t happens answer u is = ap (table_of t) is

pub no_test : Test
no_test bytes = false

by_act : OnceLaws → SchedulesKeepIdsDrawn → (c : Chronicle) (act : Act) (said : Happened) → happens c.story.world act ≡ said → OnceIn c → IfOk (recorded c act said) (WhereApart OnceIn)
by_act laws keep c act (Err why) is at = tt
by_act laws keep c act (Ok (None, new)) is at =
    let rests = rest_counts c.story.world act new is no_test in
    λ apart. record {
      drawn = drawn_on keep c.story.world act None new is at.drawn;
      used = rest_used c.story.world new c.opened rests.tables (λ p. less_of p c.story.world new (rest_counts c.story.world act new is p)) at.used;
    }
by_act laws keep c act (Ok (Some reported, new)) is at =
    let w = c.story.world in
    let m = event_counts c.story.world act reported new is no_test in
    let next_drawn = drawn_on keep c.story.world act (Some reported) new is at.drawn in
    let one : AreApart new.tables → OneStep c.story.world new reported.device m.before m.after reported.event reported.answer = λ apart. record {
      at = m.is;
      stepped = m.stepped;
      tables = m.tables;
      stays = step_stays laws.steps m.before reported.event reported.answer m.after m.stepped;
      possible = m.possible;
      counts = λ p. count_of p c.story.world reported new (event_counts c.story.world act reported new is p);
      drawn = at.drawn;
      next_drawn = next_drawn;
      apart = apart;
    } in
    subst (λ (o : Option DeviceTable). WhereApart OnceIn (with_event_at c act reported new o)) (sym m.is)
    (λ apart. record {
      drawn = next_drawn;
      used = subst (λ (u : DeviceTable). AreUsed new (c.opened ++ frame_opens c.story.world reported.device m.before reported.event u)) (sym (after_is m.before reported.event reported.answer m.after m.stepped))
          (event_used laws c.story.world new reported.device m.before m.after reported.event reported.answer c.opened (one apart) at.used);
    })

once_keeps : OnceLaws → SchedulesKeepIdsDrawn → ApartActsKeep OnceIn
once_keeps laws keep c act at = by_act laws keep c act (happens c.story.world act) refl at

none_used : (id : ℕ) → uses id [] [] ≡ 0
unfolding uses
none_used id = let none = none_waits (asks_id id) in omega (arith, none)

begins_used : (configs : List Config) → AreUsed (opening_world configs) []
begins_used configs = record {
  once = λ e x k there begins below. let none = none_used (id_at x.ids k).0 in omega (arith, none);
  unused = λ id some none. none_used id;
}

-- each number of a scanner's blocks is one that it has drawn, or one to come
used_once : (w : World) (opened : List Opened) → AreDrawnApart w → AreUsed w opened → IdsAreUsedOnce w opened
used_once w opened known used = record {
  once = λ device t number at has. by_number device t number at has (below_or_not number t.next_id);
  unused = none;
}
  where
    none : (device : ℕ) (t : ScannerTable) (number : ℕ) → slice_get w.tables device ≡ Some (Scanner t) → t.next_id ≤ number → HasNumber (Scanner t) number → uses (id_at t.ids number).0 w.streams opened ≡ 0
    none device t number at from has =
        used.unused (id_at t.ids number).0 (not_zero w device (Scanner t) number known.ids at has) (to_come w device (Scanner t) number known at from has)

    by_number : (device : ℕ) (t : ScannerTable) (number : ℕ) → slice_get w.tables device ≡ Some (Scanner t) → HasNumber (Scanner t) number → (number < t.next_id) ⊎ (t.next_id ≤ number) → uses (id_at t.ids number).0 w.streams opened ≤ 1
    by_number device t number at has (inl less) = used.once device t number at has.begins less
    by_number device t number at has (inr from) = let zero = none device t number at from has in omega (arith, zero)

pub ids_used_once : OnceLaws → SchedulesKeepIdsDrawn → OpeningWorldsHaveIdsDrawn → SchedulesUseIdsOnce
ids_used_once laws keep opens configs acts c is =
    let steps = laws.steps in
    let held : WhereApart OnceIn c = subst (λ (r : Result Chronicle ActFault). IfOk r (WhereApart OnceIn)) is.ran
    (chronicles_keep (WhereApart OnceIn) (apart_keeps steps.blocks OnceIn (once_keeps laws keep)) acts (Ok (blank (opening_world configs)))
    (λ apart. record { drawn = opens configs is.lives; used = begins_used configs })) in
    let all = held is.apart in
    used_once c.story.world c.opened (record { ids = all.drawn; apart = is.apart }) all.used
