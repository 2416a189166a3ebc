-- At each moment of a schedule: the chronicle is one of a schedule, what was accepted was produced, and outputs hold the
-- values of what was produced.
use Rattle.std.proofs.Common.{◌≡◌, ◌≢◌, ◌<◌, ℕ, ◌+◌, ◌%◌, ◌^◌, ◌==◌, Bool, true, false, List, [], ◌∷◌, ◌++◌, set, slice_get, Option, Some, None, Result, Ok, Err, ◌⊎◌, inl, inr, refl, sym, ◌∙◌, ap, subst, arith, eqb-true}
use Rattle.std.specs.List.{AllByRecursion, Contains}
use Rattle.std.proofs.lemmas.Option.{same_Some}
use Rattle.std.proofs.lemmas.Bool.{eqb-false}
use Rattle.base_lemmas.specs.Lists.{set_own, set_other}
use Rattle.cip_datagram.specs.ReadsBack.{HeaderReadsBack}
use Rattle.cip_events.specs.Answers.{is_accepted}
use Rattle.cip_events.specs.declared.event.Answer.{Answer}
use Rattle.cip_events.specs.declared.event.Delivery.{Delivery}
use Rattle.cip_events.specs.declared.event.Delivery.TheVariants.{Applied}
use Rattle.cip_events.specs.declared.event.Event.{Event}
use Rattle.cip_events.specs.declared.event.StepFault.{StepFault}
use Rattle.cip_events.specs.declared.event.Verdict.{Verdict}
use Rattle.cip_events.specs.declared.event.Verdict.TheVariants.{Asked, BadFrame, Delivered, Done, Ignored, Value, Replied}
use Rattle.adapter_table.specs.declared.table.AdapterTable.{AdapterTable}
use Rattle.adapter_table.specs.Laws.{StepsLeave}
use Rattle.adapter_table.specs.Requests.{Next}
use Rattle.adapter_table.specs.Step.{adapter_step}
use Rattle.scanner_table.specs.declared.table.ScannerTable.{ScannerTable}
use Rattle.scanner_table.specs.Effects.{Next as ScannerNext}
use Rattle.scanner_table.specs.Step.{scanner_step}
use Rattle.device_laws.specs.ScannerDeliveries.{reports_accepted}
use Rattle.cip_tables.specs.Sound.{StepsGrow}
use Rattle.cip_tables.specs.declared.table.DeviceTable.{DeviceTable}
use Rattle.cip_tables.specs.declared.table.DeviceTable.TheVariants.{Adapter, Scanner}
use Rattle.cip_tables.specs.Step.{DeviceNext, as_adapter, as_scanner, step}
use Rattle.segment_world.specs.declared.act.Act.{Act}
use Rattle.segment_world.specs.declared.act.ActFault.{ActFault}
use Rattle.segment_world.specs.World.{World, ReportedEvent, happens}
use Rattle.schedule_laws.specs.Ids.{SchedulesKeepIdsDrawn, OpeningWorldsHaveIdsDrawn}
use Rattle.schedule_laws.specs.Lemmas.Moves.{Came}
use Rattle.device_laws.specs.Made.{Made, AnswersSendWhatIsMade, makes}
use Rattle.device_laws.specs.Productions.{end_at, Production, IsNumbered, numbered, produced_more}
use Rattle.device_laws.specs.Lemmas.ListCounts.{Has}
use Rattle.schedule_laws.specs.Chronicle.{Acceptance, accepted_by_verdict, Chronicle, after_act, newest, with_event_at, with_event, recorded}
use Rattle.schedule_laws.specs.Names.{IsAdapterIn, IsScannerIn, SchedulesNameOpenings, SchedulesAcceptOneOpening}
use Rattle.schedule_laws.specs.Order.{AreWithin, IsAdapterAt}
use Rattle.schedule_laws.specs.Lemmas.AdapterNewest.{Entry}
use Rattle.schedule_laws.specs.Lemmas.Found.{all_contains}
use Rattle.schedule_laws.specs.Lemmas.ProducedActs.{Any}
use Rattle.schedule_laws.specs.Lemmas.NewestSteps.{AcceptLaws, adapter_stepped}
use Rattle.schedule_laws.specs.Lemmas.NewestActs.{TakenIn}
use Rattle.schedule_laws.specs.Lemmas.Deliveries.{IsNoted, verdict_noted}
use Rattle.schedule_laws.proofs.Forms.{HasForm, scanner_forms}
use Rattle.schedule_laws.proofs.OwnerRows.{all_of_has}
use Rattle.schedule_laws.proofs.Holding.{TableHolds}
use Rattle.schedule_laws.proofs.Later.{adapter_same}

-- ---- a chronicle of a schedule

abbrev went_on : Chronicle → Result Chronicle ActFault
went_on c = Ok c

-- an event of a device is the next chronicle
pub goes_on_to : (c : Chronicle) (act : Act) (reported : ReportedEvent) (new : World) → happens c.story.world act ≡ Ok (Some reported, new) → (m : Came Any c.story.world reported new) → after_act c act ≡ Ok (with_event c act reported new m.before)
goes_on_to c act reported new is m = ap (recorded c act) is ∙ ap (λ (o : Option DeviceTable). went_on (with_event_at c act reported new o)) m.is

-- ---- lists

has_front : {X : Type 0} (x : X) (xs ys : List X) → Has x xs → Has x (xs ++ ys)
has_front x [] ys has = absurd has
has_front x (y ∷ xs) ys (inl is) = inl is
has_front x (y ∷ xs) ys (inr has) = inr (has_front x xs ys has)

pub has_more : (device : ℕ) (ms : List Made) (produced : List Production) (p : Production) → Has p produced → Has p (produced_more device produced ms)
has_more device [] produced p has = has
has_more device (m ∷ ms) produced p has = has_more device ms (produced ++ numbered device produced m ∷ []) p (has_front p produced (numbered device produced m ∷ []) has)

pub all_front : {X : Type 0} (P : X → Type 0) (xs ys : List X) → AllByRecursion P xs → AllByRecursion P ys → AllByRecursion P (xs ++ ys)
all_front P [] ys one two = two
all_front P (x ∷ xs) ys one two = (one.0, all_front P xs ys one.1 two)

pub contains_has : {X : Type 0} (xs : List X) (x : X) → Contains xs x → Has x xs
contains_has {X = X} xs x there = all_contains (λ (y : X). Has y xs) xs x (all_of_has (λ (y : X). Has y xs) xs (λ y has. has)) there

-- ---- the form of what scanners produced

-- where a scanner made the production, it has the form of one
abbrev pub IsFormed : World → Production → Type 0
IsFormed w p = IsScannerIn w p.producer.device → HasForm p.made

abbrev pub stepped_to : Answer → DeviceTable → Result DeviceNext StepFault
stepped_to answer u = Ok (answer, u)

abbrev scanner_of : DeviceTable → Option ScannerTable
scanner_of (Adapter x) = None
scanner_of (Scanner x) = Some x

abbrev scanner_in : Result DeviceNext StepFault → Option ScannerTable
scanner_in (Err why) = None
scanner_in (Ok next) = scanner_of next.1

was_scanner : (t : DeviceTable) (e : Event) (answer : Answer) (u : ScannerTable) → step t e ≡ Ok (answer, Scanner u) → (s : ScannerTable) × (t ≡ Scanner s)
unfolding step
was_scanner (Adapter t) e answer u is = absurd (no_scanner (adapter_step t e) is) where
  no_scanner : (said : Result Next StepFault) → as_adapter said ≡ Ok (answer, Scanner u) → ⊥
  no_scanner (Err why) is = absurd (let h = is in cc)
  no_scanner (Ok next) is = absurd (let h : None ≡ Some u = ap scanner_in is in cc)
was_scanner (Scanner t) e answer u is = (t, refl)

-- a scanner after an event was one before it
pub scanner_before : (w new : World) (reported : ReportedEvent) (m : Came Any w reported new) (device : ℕ) → IsScannerIn new device → IsScannerIn w device
scanner_before w new reported m device now = by_device (device == reported.device) refl where
  tables : new.tables ≡ set w.tables reported.device m.after
  tables = ap (λ (x : World). x.tables) m.leaves

  by_device : (b : Bool) → (device == reported.device) ≡ b → IsScannerIn w device
  by_device true is =
      let one = eqb-true device reported.device is in
      let here : slice_get (set w.tables reported.device m.after) reported.device ≡ Some (Scanner now.table) =
      subst (λ (n : ℕ). slice_get (set w.tables reported.device m.after) n ≡ Some (Scanner now.table)) one (ap (λ (ts : List DeviceTable). slice_get ts device) (sym tables) ∙ now.is) in
      let same : m.after ≡ Scanner now.table = same_Some m.after (Scanner now.table) (sym (set_own w.tables reported.device m.before m.after m.is) ∙ here) in
      let was = was_scanner m.before reported.event reported.answer now.table (m.stepped ∙ ap (λ (u : DeviceTable). stepped_to reported.answer u) same) in
      record { table = was.0; is = ap (slice_get w.tables) one ∙ m.is ∙ ap (λ (u : DeviceTable). Some u) was.1 }
  by_device false is =
      let ne = eqb-false device reported.device is in
      record { table = now.table; is = sym (set_other w.tables reported.device device m.after ne) ∙ ap (λ (ts : List DeviceTable). slice_get ts device) (sym tables) ∙ now.is }

pub made_formed : (w : World) (device : ℕ) (ms : List Made) (produced : List Production) → (IsScannerIn w device → AllByRecursion HasForm ms) → AllByRecursion (IsFormed w) produced → AllByRecursion (IsFormed w) (produced_more device produced ms)
made_formed w device [] produced forms ok = ok
made_formed w device (m ∷ ms) produced forms ok =
    made_formed w device ms (produced ++ numbered device produced m ∷ []) (λ scanner. (forms scanner).1) (all_front (IsFormed w) produced (numbered device produced m ∷ []) ok ((λ scanner. (forms scanner).0), tt))

pub makes_formed : (w : World) (device : ℕ) (t : DeviceTable) (e : Event) → slice_get w.tables device ≡ Some t → IsScannerIn w device → AllByRecursion HasForm (makes t e)
makes_formed w device (Adapter t) e at scanner = absurd (let one : Some (Adapter t) ≡ Some (Scanner scanner.table) = sym at ∙ scanner.is in adapter_no_scanner t scanner.table (same_Some (Adapter t) (Scanner scanner.table) one)) where
  adapter_no_scanner : (t : AdapterTable) (s : ScannerTable) → Adapter t ≡ Scanner s → ⊥
  adapter_no_scanner t s is = absurd (let h = is in cc)
makes_formed w device (Scanner t) e at scanner = scanner_forms t e

-- ---- what holds at each moment

-- what an adapter applied was produced in run mode
abbrev pub WasRunning : World → Acceptance → Type 0
WasRunning w a = IsAdapterIn w a.consumer.device → a.delivery ≡ Applied → a.production.made.run ≡ true

pub record Holds (c : Chronicle) : Type 0 where
  pub taken : TakenIn c
  pub formed : AllByRecursion (IsFormed c.story.world) c.produced
  pub produced : AllByRecursion (λ (a : Acceptance). Has a.production c.produced) c.accepted
  pub running : AllByRecursion (WasRunning c.story.world) c.accepted
  pub outputs : (device : ℕ) (t : AdapterTable) → IsAdapterAt c device t → TableHolds c.accepted device t

-- what is known of steps and of schedules
pub record PointLaws : Type 0 where
  pub blocks : StepsGrow
  pub leaves : StepsLeave
  pub reads : HeaderReadsBack
  pub sends : AnswersSendWhatIsMade
  pub keep : SchedulesKeepIdsDrawn
  pub opens : OpeningWorldsHaveIdsDrawn
  pub accepts : AcceptLaws
  pub names : SchedulesNameOpenings
  pub openings : SchedulesAcceptOneOpening

-- ---- what was accepted

accepted_one : (device : ℕ) (p : Production) (n : ℕ) (delivery : Delivery) → is_accepted delivery ≡ true → accepted_by_verdict device p (Some n) (Delivered delivery) ≡ Entry device p n delivery ∷ []
accepted_one device p n delivery so = rw so refl

pub record WasAccepted (device : ℕ) (p : Production) (n : ℕ) (verdict : Verdict) : Type 0 where
  pub delivery : Delivery
  pub is : accepted_by_verdict device p (Some n) verdict ≡ Entry device p n delivery ∷ []

pub was_accepted : (device : ℕ) (p : Production) (n : ℕ) (verdict : Verdict) → reports_accepted verdict ≡ true → WasAccepted device p n verdict
was_accepted device p n Done so = absurd (let e = so in cc)
was_accepted device p n BadFrame so = absurd (let e = so in cc)
was_accepted device p n Ignored so = absurd (let e = so in cc)
was_accepted device p n (Value bytes) so = absurd (let e = so in cc)
was_accepted device p n (Replied pending status additional content) so = absurd (let e = so in cc)
was_accepted device p n (Asked asks service class instance attribute body) so = absurd (let e = so in cc)
was_accepted device p n (Delivered delivery) so = record { delivery = delivery; is = accepted_one device p n delivery so }

pub noted_produced : (device : ℕ) (p : Production) (number : Option ℕ) (verdict : Verdict) (produced : List Production) → Has p produced → AllByRecursion (λ (a : Acceptance). Has a.production produced) (accepted_by_verdict device p number verdict)
noted_produced device p number verdict produced has = step (verdict_noted device p number verdict) where
  step : (accepted_by_verdict device p number verdict ≡ []) ⊎ IsNoted device p number verdict (accepted_by_verdict device p number verdict) → AllByRecursion (λ (a : Acceptance). Has a.production produced) (accepted_by_verdict device p number verdict)
  step (inl none) = subst (AllByRecursion (λ (a : Acceptance). Has a.production produced)) (sym none) tt
  step (inr noted) = subst (AllByRecursion (λ (a : Acceptance). Has a.production produced)) (sym noted.mine_is) (has, tt)

-- another device's outputs
pub other_holds : (old more : List Acceptance) (device : ℕ) (t : AdapterTable) → ((n : ℕ) → newest (end_at device n) more ≡ newest (end_at device n) old) → TableHolds old device t → TableHolds more device t
other_holds old more device t same ok row has lives owns a newest_is run = ok row has lives owns a (sym (same row.opening) ∙ newest_is) run

-- ---- equal counts

same_new_data : (x y c d : ℕ) → x < y + 32768 → y < x + 32768 → c ≡ x % 65536 → d ≡ y % 65536 → c ≡ d → x ≡ y
same_new_data x y c d near far one two same = omega arith

pub near_new_data : (p q : Production) → AreWithin (2 ^ 15) p.new_data q.new_data → IsNumbered p → IsNumbered q → p.made.datagram.count ≡ q.made.datagram.count → p.new_data ≡ q.new_data
near_new_data p q near one two same = same_new_data p.new_data q.new_data p.made.datagram.count q.made.datagram.count near.first near.second one.count two.count same

-- ---- an event

-- the device of an adapter's table after an event
pub record AdapterBefore (w : World) (reported : ReportedEvent) (u : AdapterTable) : Type 0 where
  pub table : AdapterTable
  pub there : slice_get w.tables reported.device ≡ Some (Adapter table)
  pub next : Next
  pub is : adapter_step table reported.event ≡ Ok next
  pub answer_is : next.0 ≡ reported.answer
  pub table_is : next.1 ≡ u

abbrev adapter_of : DeviceTable → Option AdapterTable
adapter_of (Adapter x) = Some x
adapter_of (Scanner x) = None

abbrev adapter_in : Result DeviceNext StepFault → Option AdapterTable
adapter_in (Err why) = None
adapter_in (Ok next) = adapter_of next.1

pub adapter_before : (w : World) (reported : ReportedEvent) (u : AdapterTable) (t : DeviceTable) → slice_get w.tables reported.device ≡ Some t → step t reported.event ≡ Ok (reported.answer, Adapter u) → AdapterBefore w reported u
unfolding step
adapter_before w reported u (Adapter t) at is =
    let s = adapter_stepped t reported.event reported.answer (Adapter u) is in
    record { table = t; there = at; next = s.next; is = s.is; answer_is = s.answer_is; table_is = adapter_same s.next.1 u s.table_is }
adapter_before w reported u (Scanner t) at is = absurd (no_adapter (scanner_step t reported.event) is) where
  no_adapter : (said : Result ScannerNext StepFault) → as_scanner said ≡ Ok (reported.answer, Adapter u) → ⊥
  no_adapter (Err why) is = absurd (let h = is in cc)
  no_adapter (Ok next) is = absurd (let h : None ≡ Some u = ap adapter_in is in cc)

-- an adapter's table after an event is another device's, as it was, or the device's own
abbrev pub TableCases : World → ReportedEvent → ℕ → AdapterTable → Type 0
TableCases w reported device u = ((reported.device ≢ device) × (slice_get w.tables device ≡ Some (Adapter u))) ⊎ ((device ≡ reported.device) × AdapterBefore w reported u)

pub table_cases : (w new : World) (reported : ReportedEvent) (m : Came Any w reported new) (device : ℕ) (u : AdapterTable) → slice_get new.tables device ≡ Some (Adapter u) → TableCases w reported device u
table_cases w new reported m device u at = by_device (device == reported.device) refl where
  tables : new.tables ≡ set w.tables reported.device m.after
  tables = ap (λ (x : World). x.tables) m.leaves

  now : slice_get (set w.tables reported.device m.after) device ≡ Some (Adapter u)
  now = ap (λ (ts : List DeviceTable). slice_get ts device) (sym tables) ∙ at

  by_device : (b : Bool) → (device == reported.device) ≡ b → TableCases w reported device u
  by_device true is =
      let one = eqb-true device reported.device is in
      let here : slice_get (set w.tables reported.device m.after) reported.device ≡ Some (Adapter u) = subst (λ (n : ℕ). slice_get (set w.tables reported.device m.after) n ≡ Some (Adapter u)) one now in
      let same : m.after ≡ Adapter u = same_Some m.after (Adapter u) (sym (set_own w.tables reported.device m.before m.after m.is) ∙ here) in
      inr (one, adapter_before w reported u m.before m.is (m.stepped ∙ ap (λ (x : DeviceTable). stepped_to reported.answer x) same))
  by_device false is =
      let ne = eqb-false device reported.device is in
      inl ((λ same. ne (sym same)), sym (set_other w.tables reported.device device m.after ne) ∙ now)

-- an adapter after an event was one before it
pub adapter_back : (w new : World) (reported : ReportedEvent) (m : Came Any w reported new) (device : ℕ) → IsAdapterIn new device → IsAdapterIn w device
adapter_back w new reported m device now = by_case (table_cases w new reported m device now.table now.is) where
  by_case : TableCases w reported device now.table → IsAdapterIn w device
  by_case (inl other) = record { table = now.table; is = other.1 }
  by_case (inr own) = record { table = own.1.table; is = ap (slice_get w.tables) own.0 ∙ own.1.there }
