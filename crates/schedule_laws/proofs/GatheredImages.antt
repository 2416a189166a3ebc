-- Over every schedule the image of a slot is zeros, or the data of a production that the slot accepted since it was last
-- established.
use Rattle.std.proofs.Common.{◌≡◌, ◌≢◌, ℕ, zero, suc, ◌==◌, Bool, true, false, List, [], ◌∷◌, ◌++◌, find, map, set, slice_get, Option, Some, None, Result, Ok, Err, IfOk, ◌⊎◌, inl, inr, refl, sym, ◌∙◌, ap, subst, eqb-true}
use Rattle.std.proofs.lemmas.Option.{same_Some}
use Rattle.std.proofs.lemmas.Bool.{eqb-false}
use Rattle.device_laws.specs.Lemmas.Folds.{scanner_is}
use Rattle.base_lemmas.specs.Lists.{set_own, set_other}
use Rattle.cip_datagram.specs.Datagram.{datagram_text}
use Rattle.cip_events.specs.declared.event.Answer.{Answer}
use Rattle.cip_events.specs.declared.event.Event.TheVariants as event
use Rattle.cip_events.specs.declared.event.StepFault.{StepFault}
use Rattle.cip_events.specs.declared.event.Verdict.{Verdict}
use Rattle.adapter_table.specs.Requests.{Next as AdapterNext}
use Rattle.adapter_table.specs.Step.{adapter_step}
use Rattle.scanner_table.specs.declared.profile.ScannerProfile.{ScannerProfile}
use Rattle.scanner_table.specs.declared.profile.SlotConfig.{SlotConfig}
use Rattle.scanner_table.specs.declared.slot.Slot.{Slot}
use Rattle.scanner_table.specs.declared.slot.SlotState.TheVariants.{Idle, Established}
use Rattle.scanner_table.specs.declared.table.ScannerTable.{ScannerTable}
use Rattle.scanner_table.specs.Datagrams.{received}
use Rattle.scanner_table.specs.Effects.{Next}
use Rattle.scanner_table.specs.Slots.{IndexedSlot}
use Rattle.scanner_table.specs.Step.{fresh_slot, scanner_step, scanner_table}
use Rattle.scanner_table.specs.Lemmas.SlotLookups.{slot_is}
use Rattle.scanner_table.specs.Lemmas.FreshSlots.{fresh_idle}
use Rattle.cip_tables.specs.declared.table.Config.{Config}
use Rattle.cip_tables.specs.declared.table.Config.TheVariants as config
use Rattle.cip_tables.specs.declared.table.DeviceTable.{DeviceTable}
use Rattle.cip_tables.specs.declared.table.DeviceTable.TheVariants.{Adapter, Scanner}
use Rattle.cip_tables.specs.Run.{table_of}
use Rattle.cip_tables.specs.Whole.{IsWholeDevice}
use Rattle.device_laws.specs.SlotIds.{SlotsHaveTheIdsOfTheirSuccess}
use Rattle.cip_tables.specs.Step.{DeviceNext, as_adapter, opening_table, step}
use Rattle.segment_world.specs.Transit.Log.{Sent}
use Rattle.segment_world.specs.declared.act.Act.{Act}
use Rattle.segment_world.specs.declared.act.ActFault.{ActFault}
use Rattle.segment_world.specs.Configs.{opening_world}
use Rattle.segment_world.specs.World.{World, ReportedEvent, happens, node_at}
use Rattle.schedule_laws.specs.Ids.{SchedulesKeepIdsDrawn, OpeningWorldsHaveIdsDrawn}
use Rattle.schedule_laws.specs.Lemmas.Moves.{Came}
use Rattle.device_laws.specs.Made.{AnswersSendWhatIsMade}
use Rattle.device_laws.specs.Productions.{Production}
use Rattle.schedule_laws.specs.Chronicle.{Acceptance, Chronicle, Establishment, accepted_by_act, accepted_by_verdict, accepted_sent, blank, establishes, is_slot, names, with_event}
use Rattle.schedule_laws.specs.Indexes.{sent_of}
use Rattle.schedule_laws.specs.Order.{IsChronicle, IsScannerAt}
use Rattle.schedule_laws.specs.Lemmas.Beginning.{blank_produced}
use Rattle.schedule_laws.specs.Lemmas.Deliveries.{IsDelivery, IsOther, act_kind}
use Rattle.schedule_laws.specs.Lemmas.NewestActs.{IsSentAs, sent_as}
use Rattle.schedule_laws.specs.Lemmas.NewestSteps.{scanner_stepped}
use Rattle.schedule_laws.specs.Lemmas.ProducedActs.{Any, Cases, Produced, cases_keep, chronicles_keep, produced_cases}
use Rattle.schedule_laws.specs.Images.{ImageIs, SchedulesGatherImages}
use Rattle.schedule_laws.proofs.ImageActs.{ImageOf, IsLast, TableGathers, datagram_gathers, found_elsewhere, gathers_more, quiet_gathers, steps_keep_links}
use Rattle.schedule_laws.proofs.ImageSteps.{zeros_of}
use Rattle.schedule_laws.proofs.Moments.{stepped_to}
use Rattle.schedule_laws.proofs.Outputs.{contains_by}

-- ---- the device of an event

-- the scanner's table before an event
pub record ScannerBefore (w : World) (reported : ReportedEvent) (u : ScannerTable) : Type 0 where
  pub table : ScannerTable
  pub there : slice_get w.tables reported.device ≡ Some (Scanner table)
  pub next : Next
  pub is : scanner_step table reported.event ≡ Ok next
  pub answer_is : next.0 ≡ reported.answer
  pub table_is : next.1 ≡ u

abbrev scanner_of : DeviceTable → Option ScannerTable
scanner_of (Adapter x) = None
scanner_of (Scanner x) = Some x

abbrev scanner_in : Result DeviceNext StepFault → Option ScannerTable
scanner_in (Err why) = None
scanner_in (Ok next) = scanner_of next.1

scanner_was : (w : World) (reported : ReportedEvent) (u : ScannerTable) (t : DeviceTable) → slice_get w.tables reported.device ≡ Some t → step t reported.event ≡ Ok (reported.answer, Scanner u) → ScannerBefore w reported u
unfolding step
scanner_was w reported u (Scanner t) at is =
    let s = scanner_stepped t reported.event reported.answer (Scanner u) is in
    record { table = t; there = at; next = s.next; is = s.is; answer_is = s.answer_is; table_is = scanner_is s.next.1 u s.table_is }
scanner_was w reported u (Adapter t) at is = absurd (no_scanner (adapter_step t reported.event) is) where
  no_scanner : (said : Result AdapterNext StepFault) → as_adapter said ≡ Ok (reported.answer, Scanner u) → ⊥
  no_scanner (Err why) is = absurd (let h = is in cc)
  no_scanner (Ok next) is = absurd (let h : None ≡ Some u = ap scanner_in is in cc)

abbrev ScannerCases : World → ReportedEvent → ℕ → ScannerTable → Type 0
ScannerCases w reported device u = ((reported.device ≢ device) × (slice_get w.tables device ≡ Some (Scanner u))) ⊎ ((device ≡ reported.device) × ScannerBefore w reported u)

scanner_cases : (w new : World) (reported : ReportedEvent) (m : Came Any w reported new) (device : ℕ) (u : ScannerTable) → slice_get new.tables device ≡ Some (Scanner u) → ScannerCases w reported device u
scanner_cases w new reported m device u at = by_device (device == reported.device) refl where
  tables : new.tables ≡ set w.tables reported.device m.after
  tables = ap (λ (x : World). x.tables) m.leaves

  now : slice_get (set w.tables reported.device m.after) device ≡ Some (Scanner u)
  now = ap (λ (ts : List DeviceTable). slice_get ts device) (sym tables) ∙ at

  by_device : (b : Bool) → (device == reported.device) ≡ b → ScannerCases w reported device u
  by_device true is =
      let one = eqb-true device reported.device is in
      let here : slice_get (set w.tables reported.device m.after) reported.device ≡ Some (Scanner u) = subst (λ (n : ℕ). slice_get (set w.tables reported.device m.after) n ≡ Some (Scanner u)) one now in
      let same : m.after ≡ Scanner u = same_Some m.after (Scanner u) (sym (set_own w.tables reported.device m.before m.after m.is) ∙ here) in
      inr (one, scanner_was w reported u m.before m.is (m.stepped ∙ ap (λ (x : DeviceTable). stepped_to reported.answer x) same))
  by_device false is =
      let ne = eqb-false device reported.device is in
      inl ((λ same. ne (sym same)), sym (set_other w.tables reported.device device m.after ne) ∙ now)

-- ---- an act

abbrev pub Gathers : Chronicle → Type 0
Gathers c = (device : ℕ) (t : ScannerTable) → IsScannerAt c device t → TableGathers c.accepted c.established device t

-- what was produced, and what images hold
pub record Gathering (c : Chronicle) : Type 0 where
  pub produced : Produced c
  pub images : Gathers c

elsewhere : (accepted : List Acceptance) (established more : List Establishment) (device : ℕ) (t : ScannerTable) → ((k : ℕ) → find (is_slot device k) more ≡ find (is_slot device k) established) → TableGathers accepted established device t → TableGathers accepted more device t
elsewhere accepted established more device t same ok place stands =
    let old = ok place stands in
    record {
      image = subst (ImageOf accepted device place.config place.slot.image) (sym (same place.number)) old.image;
      last = λ c is. subst (λ (o : Option Establishment). IsLast o c) (sym (same place.number)) (old.last c is);
    }

next_same : (a b : Next) → ◌≡◌ {A = Result Next StepFault} (Ok a) (Ok b) → a ≡ b
next_same a b is = cc

came_images : SlotsHaveTheIdsOfTheirSuccess → (c : Chronicle) (act : Act) (reported : ReportedEvent) (new : World) → happens c.story.world act ≡ Ok (Some reported, new) → (m : Came Any c.story.world reported new) → Gathering c → Gathers (with_event c act reported new m.before)
came_images ids c act reported new is m ok device u at = by_case (act_kind c.story.world c.produced act reported new is) (scanner_cases c.story.world new reported m device u at) where
  w : World
  w = c.story.world

  d : ℕ
  d = reported.device

  noted_now : List Acceptance
  noted_now = accepted_by_act w c.produced act reported.answer.verdict

  after : DeviceTable
  after = table_of m.before (step m.before reported.event)

  established : List Establishment
  established = establishes d m.before after ++ c.established

  sent : (del : IsDelivery w act reported) → IsSentAs w c.produced del.index del.sent
  sent del = sent_as w c.produced del.index del.sent (ap (λ (xs : List Sent). slice_get xs del.index) (sym ok.produced.sent) ∙ del.there)

  event_is : (del : IsDelivery w act reported) → reported.event ≡ event.Datagram (node_at w (sent del).production.producer.device) (datagram_text (sent del).production.made.datagram)
  event_is del = del.event_is ∙ sym (ap (λ (s : Sent). event.Datagram s.from s.bytes) (sent del).is)

  noted : (del : IsDelivery w act reported) (t : DeviceTable) → slice_get w.tables d ≡ Some t → noted_now ≡ accepted_by_verdict d (sent del).production (names t (sent_of w (sent del).production)) reported.answer.verdict
  noted del t there =
      ap (λ (a : Act). accepted_by_act w c.produced a reported.answer.verdict) del.act_is
      ∙ ap (λ (o : Option DeviceTable). accepted_sent d o (slice_get w.sent del.index) (slice_get c.produced del.index) reported.answer.verdict) there
      ∙ ap (λ (o : Option Sent). accepted_sent d (Some t) o (slice_get c.produced del.index) reported.answer.verdict) (del.there ∙ sym (ap Some (sent del).is))
      ∙ ap (λ (o : Option Production). accepted_sent d (Some t) (Some (sent_of w (sent del).production)) o reported.answer.verdict) (sent del).there

  -- the tables of the scanner that the event came to
  before_is : (b : ScannerBefore w reported u) → m.before ≡ Scanner b.table
  before_is b = same_Some m.before (Scanner b.table) (sym m.is ∙ b.there)

  after_is : (b : ScannerBefore w reported u) → d ≡ device → after ≡ Scanner u
  after_is b same = ap (table_of m.before) m.stepped ∙ same_Some m.after (Scanner u) (sym (set_own w.tables d m.before m.after m.is) ∙ subst (λ (n : ℕ). slice_get (set w.tables d m.after) n ≡ Some (Scanner u)) (sym same) (ap (λ (ts : List DeviceTable). slice_get ts device) (sym (ap (λ (x : World). x.tables) m.leaves)) ∙ at))

  here : (b : ScannerBefore w reported u) → d ≡ device → (accepted : List Acceptance) → TableGathers accepted (establishes d (Scanner b.table) (Scanner u) ++ c.established) d u → TableGathers accepted established d u
  here b same accepted gathers =
      subst (λ (x : DeviceTable). TableGathers accepted (establishes d m.before x ++ c.established) d u) (sym (after_is b same))
      (subst (λ (x : DeviceTable). TableGathers accepted (establishes d x (Scanner u) ++ c.established) d u) (sym (before_is b)) gathers)

  delivered : (del : IsDelivery w act reported) (b : ScannerBefore w reported u) → d ≡ device → TableGathers (noted_now ++ c.accepted) established d u
  delivered del b same_device =
      let p = (sent del).production in
      let peer = node_at w p.producer.device in
      let said = received b.table peer (datagram_text p.made.datagram) in
      let same : said ≡ b.next = next_same said b.next (ap (scanner_step b.table) (sym (event_is del)) ∙ b.is) in
      let verdict : said.0.verdict ≡ reported.answer.verdict = ap (λ (n : Next). n.0.verdict) same ∙ ap (λ (a : Answer). a.verdict) b.answer_is in
      let table : said.1 ≡ u = ap (λ (n : Next). n.1) same ∙ b.table_is in
      let gathers = datagram_gathers c.accepted c.established d p b.table peer (ok.images d b.table b.there) in
      subst (λ (xs : List Acceptance). TableGathers (xs ++ c.accepted) established d u) (sym (noted del (Scanner b.table) b.there))
      (here b same_device (accepted_by_verdict d p (names (Scanner b.table) (sent_of w p)) reported.answer.verdict ++ c.accepted)
      (subst (λ (v : Verdict). TableGathers (accepted_by_verdict d p (names (Scanner b.table) (sent_of w p)) v ++ c.accepted) (establishes d (Scanner b.table) (Scanner u) ++ c.established) d u) verdict
      (subst (λ (x : ScannerTable). TableGathers (accepted_by_verdict d p (names (Scanner b.table) (sent_of w p)) said.0.verdict ++ c.accepted) (establishes d (Scanner b.table) (Scanner x) ++ c.established) d x) table gathers)))

  whole_of : (b : ScannerBefore w reported u) → IsWholeDevice (Scanner b.table)
  whole_of b = let produced = ok.produced in let drawn = produced.drawn in drawn.whole d (Scanner b.table) b.there

  quiet : IsOther w c.produced act reported → (b : ScannerBefore w reported u) → d ≡ device → TableGathers (noted_now ++ c.accepted) established d u
  quiet other b same_device =
      subst (λ (xs : List Acceptance). TableGathers (xs ++ c.accepted) established d u) (sym (other.none reported.answer.verdict))
      (here b same_device c.accepted
      (subst (λ (x : ScannerTable). TableGathers c.accepted (establishes d (Scanner b.table) (Scanner x) ++ c.established) d x) b.table_is
      (quiet_gathers c.accepted c.established d b.table reported.event b.next b.is other.event (steps_keep_links ids b.table reported.event b.next b.is (whole_of b)) (ok.images d b.table b.there))))

  by_case : IsDelivery w act reported ⊎ IsOther w c.produced act reported → ScannerCases w reported device u → TableGathers (noted_now ++ c.accepted) established device u
  by_case kind (inl other) =
      elsewhere (noted_now ++ c.accepted) c.established established device u (λ k. found_elsewhere d device k m.before after c.established other.0) (gathers_more noted_now c.accepted c.established device u (ok.images device u other.1))
  by_case (inl del) (inr own) = subst (λ (n : ℕ). TableGathers (noted_now ++ c.accepted) established n u) (sym own.0) (delivered del own.1 (sym own.0))
  by_case (inr other) (inr own) = subst (λ (n : ℕ). TableGathers (noted_now ++ c.accepted) established n u) (sym own.0) (quiet other own.1 (sym own.0))

gathering_cases : AnswersSendWhatIsMade → SchedulesKeepIdsDrawn → SlotsHaveTheIdsOfTheirSuccess → Cases Gathering
gathering_cases sends keep ids = record {
  rests = λ c act new is rests ok. record {
    produced = (produced_cases sends keep).rests c act new is rests ok.produced;
    images = λ device t at. ok.images device t (ap (λ (ts : List DeviceTable). slice_get ts device) (sym rests.tables) ∙ at);
  };
  came = λ c act reported new is m ok. record {
    produced = (produced_cases sends keep).came c act reported new is m ok.produced;
    images = came_images ids c act reported new is m ok;
  };
}

-- ---- a schedule

fresh_image : (configs : List SlotConfig) (n : ℕ) (slot : Slot) (conf : SlotConfig) → slice_get (map fresh_slot configs) n ≡ Some slot → slice_get configs n ≡ Some conf → slot.image ≡ zeros_of conf
fresh_image [] n slot conf is at = absurd (let e = is in cc)
fresh_image (x ∷ configs) zero slot conf is at = ap (λ (s : Slot). s.image) (sym (same_Some (fresh_slot x) slot is)) ∙ ap zeros_of (same_Some x conf at)
fresh_image (x ∷ configs) (suc n) slot conf is at = fresh_image configs n slot conf is at

scanner_begins : (device : ℕ) (profile : ScannerProfile) → TableGathers [] [] device (scanner_table profile)
scanner_begins device profile place stands = record {
  image = fresh_image profile.slots place.number place.slot place.config stands.slot stands.config;
  last = λ c is. absurd (let e : Idle ≡ Established c = sym (fresh_idle profile.slots place.number place.slot stands.slot) ∙ is in cc);
}

device_begins : (device : ℕ) (made : Config) (t : ScannerTable) → opening_table made ≡ Scanner t → TableGathers [] [] device t
device_begins device (config.Adapter profile) t is = absurd (let e = is in cc)
device_begins device (config.Scanner profile) t is = subst (TableGathers [] [] device) (scanner_is (scanner_table profile) t is) (scanner_begins device profile)

all_begin : (configs : List Config) (n device : ℕ) (t : ScannerTable) → slice_get (map opening_table configs) n ≡ Some (Scanner t) → TableGathers [] [] device t
all_begin [] n device t at = absurd (let e = at in cc)
all_begin (made ∷ configs) zero device t at = device_begins device made t (same_Some (opening_table made) (Scanner t) at)
all_begin (made ∷ configs) (suc n) device t at = all_begin configs n device t at

image_is : (c : Chronicle) (device : ℕ) (place : IndexedSlot) (found : Option Establishment) → ImageOf c.accepted device place.config place.slot.image found → ImageIs c device place found
image_is c device place None ok = ok
image_is c device place (Some e) (inl zeros) = inl zeros
image_is c device place (Some e) (inr g) = inr (record { acceptance = g.acceptance; there = contains_by c.accepted g.acceptance g.there; consumer_is = g.consumer_is; data_is = g.image_is })

pub schedule_gathers : AnswersSendWhatIsMade → SchedulesKeepIdsDrawn → OpeningWorldsHaveIdsDrawn → SlotsHaveTheIdsOfTheirSuccess → (configs : List Config) (acts : List Act) (c : Chronicle) → IsChronicle configs acts c → Gathering c
schedule_gathers sends keep opens ids configs acts c is =
    let begins : Gathering (blank (opening_world configs)) = record { produced = blank_produced opens configs acts c is; images = λ device t at. all_begin configs device device t at } in
    subst (λ (r : Result Chronicle ActFault). IfOk r Gathering) is.ran (chronicles_keep Gathering (cases_keep Gathering (gathering_cases sends keep ids)) acts (Ok (blank (opening_world configs))) begins)

pub images_gathered : AnswersSendWhatIsMade → SchedulesKeepIdsDrawn → OpeningWorldsHaveIdsDrawn → SlotsHaveTheIdsOfTheirSuccess → SchedulesGatherImages
images_gathered sends keep opens ids configs acts c is device t place at there =
    let holds = schedule_gathers sends keep opens ids configs acts c is in
    image_is c device place (find (is_slot device place.number) c.established) (holds.images device t at place (slot_is t place.number place there).stands).image
