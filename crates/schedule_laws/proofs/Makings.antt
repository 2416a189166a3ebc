-- Each production of a schedule was made at a moment of it; and what is accepted was written before.
use Rattle.std.proofs.Common.{◌≡◌, ◌≢◌, ◌⊎◌, inl, inr, ℕ, Bool, true, false, List, [], ◌∷◌, ◌++◌, set, slice_get, Option, Some, None, Result, Ok, Err, IfOk, unwrap_or, refl, sym, ◌∙◌, ap, subst, append_assoc, append-nil}
use Rattle.std.specs.List.{AllByRecursion, Contains}
use Rattle.std.proofs.lemmas.Option.{same_Some}
use Rattle.cip_tables.specs.Sound.{StepsGrow}
use Rattle.schedule_laws.specs.Lives.{AreApart}
use Rattle.schedule_laws.specs.Lemmas.Acts.{more_acts, nothing_yet}
use Rattle.cip_events.specs.declared.event.Event.{Event}
use Rattle.cip_events.specs.declared.event.Event.TheVariants.{Write}
use Rattle.cip_events.specs.declared.event.StepFault.{StepFault}
use Rattle.adapter_table.specs.declared.table.AdapterTable.{AdapterTable}
use Rattle.adapter_table.specs.Points.{bytes_at}
use Rattle.adapter_table.specs.Requests.{Next}
use Rattle.adapter_table.specs.Step.{adapter_step}
use Rattle.scanner_table.specs.declared.table.ScannerTable.{ScannerTable}
use Rattle.scanner_table.specs.Effects.{Next as ScannerNext}
use Rattle.scanner_table.specs.Step.{scanner_step}
use Rattle.cip_tables.specs.declared.table.Config.{Config}
use Rattle.cip_tables.specs.declared.table.DeviceTable.{DeviceTable}
use Rattle.cip_tables.specs.declared.table.DeviceTable.TheVariants.{Adapter, Scanner}
use Rattle.cip_tables.specs.Run.{table_of}
use Rattle.cip_tables.specs.Step.{as_adapter, as_scanner, step}
use Rattle.segment_world.specs.declared.act.Act.{Act}
use Rattle.segment_world.specs.declared.act.ActFault.{ActFault}
use Rattle.segment_world.specs.Configs.{opening_world}
use Rattle.segment_world.specs.World.{World, ReportedEvent, Happened, happens}
use Rattle.device_laws.specs.Newest.{came_from}
use Rattle.schedule_laws.specs.Lemmas.Moves.{Came, Rests, Moves, act_moves}
use Rattle.schedule_laws.specs.Lemmas.Tests.{set_cases}
use Rattle.device_laws.specs.Lemmas.RowIds.{all_contained}
use Rattle.device_laws.specs.Made.{Made, makes, scanner_makes}
use Rattle.device_laws.specs.Productions.{End, end_at, Production, numbered, produced_more}
use Rattle.device_laws.specs.Values.{IsSlots, SlotsProduceTheirOutputs}
use Rattle.device_laws.specs.Lemmas.Lists.{all_both, all_more}
use Rattle.schedule_laws.specs.Chronicle.{after_act, blank, Chronicle, chronicles, recorded, with_event, with_event_at, opens_row}
use Rattle.schedule_laws.specs.Names.{IsEntry, IsMadeBy, IsOfItsEntry, IsScannerIn, ProducerHasEntry, SchedulesNameOpenings, SlotAcceptsByEntry, WasProduced}
use Rattle.schedule_laws.specs.Order.{IsChronicle, IsScannerAt, ProducedAsWritten}
use Rattle.schedule_laws.specs.Lemmas.Found.{all_contains, found_holds}
use Rattle.schedule_laws.specs.Lemmas.ProducedActs.{Any, any_streams, begins_apart}
use Rattle.schedule_laws.specs.Written.{AcceptedDataWereWritten, GatheredDataWereInput, HappensNext, IsMomentOf, WasInput, WasWritten}
use Rattle.schedule_laws.proofs.Forms.{HasForm, scanner_forms}
use Rattle.schedule_laws.proofs.InputsMade.{HasInput, MadeOf, all_made_of}

-- ---- a device stays an adapter or a scanner

abbrev is_scanner : DeviceTable → Bool
is_scanner (Adapter t) = false
is_scanner (Scanner t) = true

adapter_stays : (t : AdapterTable) (said : Result Next StepFault) → is_scanner (table_of (Adapter t) (as_adapter said)) ≡ false
adapter_stays t (Ok next) = refl
adapter_stays t (Err why) = refl

scanner_stays : (t : ScannerTable) (said : Result ScannerNext StepFault) → is_scanner (table_of (Scanner t) (as_scanner said)) ≡ true
scanner_stays t (Ok next) = refl
scanner_stays t (Err why) = refl

kind_stays : (t : DeviceTable) (happened : Event) → is_scanner (table_of t (step t happened)) ≡ is_scanner t
unfolding step
kind_stays (Adapter t) happened = adapter_stays t (adapter_step t happened)
kind_stays (Scanner t) happened = scanner_stays t (scanner_step t happened)

-- the device was of the same kind as the world opened
record Began (configs : List Config) (device : ℕ) (t : DeviceTable) : Type 0 where
  first : DeviceTable
  there : slice_get (opening_world configs).tables device ≡ Some first
  same : is_scanner t ≡ is_scanner first

-- ---- when a production was made

-- at this moment the device's table made it, at an event
record WasMade (configs : List Config) (acts : List Act) (producer : End) (m : Made) : Type 0 where
  was : Chronicle
  moment : IsMomentOf configs acts was
  table : DeviceTable
  there : slice_get was.story.world.tables producer.device ≡ Some table
  happened : Event
  among : Contains (makes table happened) m
  number : producer.number ≡ m.number
  next : HappensNext was moment.late producer.device happened

next_on : (was : Chronicle) (late more : List Act) (device : ℕ) (happened : Event) → HappensNext was late device happened → HappensNext was (late ++ more) device happened
next_on was late more device happened next = record {
  act = next.act;
  rest = next.rest ++ more;
  parts = ap (λ (xs : List Act). xs ++ more) next.parts;
  reported = next.reported;
  new = next.new;
  is = next.is;
  device_is = next.device_is;
  event_is = next.event_is;
}

made_on : (configs : List Config) (acts more : List Act) (producer : End) (m : Made) → WasMade configs acts producer m → WasMade configs (acts ++ more) producer m
made_on configs acts more producer m made = let moment = made.moment in record {
  was = made.was;
  moment = record { early = moment.early; late = moment.late ++ more; parts = ap (λ (xs : List Act). xs ++ more) moment.parts ∙ append_assoc moment.early moment.late more; is = moment.is };
  table = made.table;
  there = made.there;
  happened = made.happened;
  among = made.among;
  number = made.number;
  next = next_on made.was moment.late more producer.device made.happened made.next;
}

abbrev AllMade : List Config → List Act → List Production → Type 0
AllMade configs acts produced = AllByRecursion (λ (p : Production). WasMade configs acts p.producer p.made) produced

more_made : (configs : List Config) (acts : List Act) (device : ℕ) (ms : List Made) (produced : List Production) → AllByRecursion (λ (m : Made). WasMade configs acts (end_at device m.number) m) ms → AllMade configs acts produced → AllMade configs acts (produced_more device produced ms)
more_made configs acts device [] produced made all = all
more_made configs acts device (m ∷ ms) produced made all =
    more_made configs acts device ms (produced ++ numbered device produced m ∷ []) made.1
    (all_both (λ (p : Production). WasMade configs acts p.producer p.made) produced (numbered device produced m ∷ []) all (made.0, tt))

-- ---- a schedule

-- what was made in the acts of a chronicle
record MadeBy (configs : List Config) (acts : List Act) (c : Chronicle) : Type 0 where
  began : (device : ℕ) (t : DeviceTable) → slice_get c.story.world.tables device ≡ Some t → Began configs device t
  made : AllMade configs acts c.produced

all_on : (configs : List Config) (acts more : List Act) (produced : List Production) → AllMade configs acts produced → AllMade configs (acts ++ more) produced
all_on configs acts more produced all =
    all_more (λ (p : Production). WasMade configs acts p.producer p.made) (λ (p : Production). WasMade configs (acts ++ more) p.producer p.made) (λ p made. made_on configs acts more p.producer p.made made) produced all

made_rests : (configs : List Config) (acts : List Act) (c : Chronicle) (act : Act) (new : World) → Rests Any c.story.world new → MadeBy configs acts c → MadeBy configs (acts ++ act ∷ []) (record c { story = record { world = new; reported = c.story.reported } })
made_rests configs acts c act new rests made = record {
  began = λ device t at. made.began device t (ap (λ (ts : List DeviceTable). slice_get ts device) (sym rests.tables) ∙ at);
  made = all_on configs acts (act ∷ []) c.produced made.made;
}

began_by : (configs : List Config) (c : Chronicle) (d : ℕ) (t u : DeviceTable) (happened : Event) (device : ℕ) (x : DeviceTable) → slice_get c.story.world.tables d ≡ Some t → table_of t (step t happened) ≡ u → ((device : ℕ) (t : DeviceTable) → slice_get c.story.world.tables device ≡ Some t → Began configs device t) → ((device ≡ d) × (x ≡ u)) ⊎ ((device ≢ d) × (slice_get c.story.world.tables device ≡ Some x)) → Began configs device x
began_by configs c d t u happened device x at after began (inl own) =
    let was = began d t at in
    record {
      first = was.first;
      there = ap (slice_get (opening_world configs).tables) own.0 ∙ was.there;
      same = ap is_scanner (own.1 ∙ sym after) ∙ kind_stays t happened ∙ was.same;
    }
began_by configs c d t u happened device x at after began (inr other) = began device x other.1

made_now : (configs : List Config) (acts : List Act) (c : Chronicle) (act : Act) (reported : ReportedEvent) (new : World) (t : DeviceTable) (ms : List Made) → IsChronicle configs acts c → happens c.story.world act ≡ Ok (Some reported, new) → slice_get c.story.world.tables reported.device ≡ Some t → AllByRecursion (Contains (makes t reported.event)) ms → AllByRecursion (λ (m : Made). WasMade configs (acts ++ act ∷ []) (end_at reported.device m.number) m) ms
made_now configs acts c act reported new t ms is goes at among =
    all_more (Contains (makes t reported.event)) (λ (m : Made). WasMade configs (acts ++ act ∷ []) (end_at reported.device m.number) m)
    (λ m one. record {
      was = c;
      moment = record { early = acts; late = act ∷ []; parts = refl; is = is };
      table = t;
      there = at;
      happened = reported.event;
      among = one;
      number = refl;
      next = record { act = act; rest = []; parts = refl; reported = reported; new = new; is = goes; device_is = refl; event_is = refl };
    }) ms among

made_came : (configs : List Config) (acts : List Act) (c : Chronicle) (act : Act) (reported : ReportedEvent) (new : World) → IsChronicle configs acts c → happens c.story.world act ≡ Ok (Some reported, new) → (m : Came Any c.story.world reported new) → MadeBy configs acts c → MadeBy configs (acts ++ act ∷ []) (with_event c act reported new m.before)
made_came configs acts c act reported new is goes m made =
    let tables : new.tables ≡ set c.story.world.tables reported.device m.after = ap (λ (x : World). x.tables) m.leaves in
    record {
      began = λ device x at. began_by configs c reported.device m.before m.after reported.event device x m.is (ap (table_of m.before) m.stepped) made.began
          (set_cases c.story.world.tables reported.device device m.before m.after x m.is (ap (λ (ts : List DeviceTable). slice_get ts device) (sym tables) ∙ at));
      made = more_made configs (acts ++ act ∷ []) reported.device (makes m.before reported.event) c.produced
          (made_now configs acts c act reported new m.before (makes m.before reported.event) is goes m.is (all_contained (makes m.before reported.event) [] (makes m.before reported.event) refl))
          (all_on configs acts (act ∷ []) c.produced made.made);
    }

said_made : (configs : List Config) (acts : List Act) (c : Chronicle) (act : Act) (said : Happened) → happens c.story.world act ≡ said → IfOk said (Moves Any c.story.world) → IsChronicle configs acts c → MadeBy configs acts c → IfOk (recorded c act said) (MadeBy configs (acts ++ act ∷ []))
said_made configs acts c act (Err fault) goes moves is made = tt
said_made configs acts c act (Ok (None, new)) goes moves is made = made_rests configs acts c act new moves made
said_made configs acts c act (Ok (Some reported, new)) goes moves is made =
    subst (λ (o : Option DeviceTable). MadeBy configs (acts ++ act ∷ []) (with_event_at c act reported new o)) (sym moves.is) (made_came configs acts c act reported new is goes moves made)

act_made : (configs : List Config) (acts : List Act) (c : Chronicle) (act : Act) → IsChronicle configs acts c → MadeBy configs acts c → IfOk (after_act c act) (MadeBy configs (acts ++ act ∷ []))
act_made configs acts c act is made = said_made configs acts c act (happens c.story.world act) refl (act_moves Any c.story.world act (any_streams c.story.world.streams)) is made

fault_stays : (acts : List Act) (fault : ActFault) → chronicles (Err fault) acts ≡ Err fault
unfolding chronicles
fault_stays [] fault = refl
fault_stays (act ∷ acts) fault = fault_stays acts fault

chronicle_same : (a b : Chronicle) → ◌≡◌ {A = Result Chronicle ActFault} (Ok a) (Ok b) → a ≡ b
chronicle_same a b e = cc

-- what follows an act
next_made : StepsGrow → (configs : List Config) (before : List Act) (c last : Chronicle) (act : Act) (acts : List Act) (r : Result Chronicle ActFault) → IsChronicle configs before c → after_act c act ≡ r → IfOk r (MadeBy configs (before ++ act ∷ [])) → chronicles r acts ≡ Ok last → AreApart last.story.world.tables → ((next : Chronicle) → IsChronicle configs (before ++ act ∷ []) next → MadeBy configs (before ++ act ∷ []) next → chronicles (Ok next) acts ≡ Ok last → MadeBy configs ((before ++ act ∷ []) ++ acts) last) → MadeBy configs (before ++ act ∷ acts) last
next_made blocks configs before c last act acts (Err fault) is goes all so apart on = absurd (let e = sym (fault_stays acts fault) ∙ so in cc)
next_made blocks configs before c last act acts (Ok next) is goes all so apart on =
    subst (λ (l : List Act). MadeBy configs l last) (append_assoc before (act ∷ []) acts) (on next (more_acts configs before c next act is goes (begins_apart blocks next last acts so apart)) all so)

acts_made : StepsGrow → (configs : List Config) (before acts : List Act) (c last : Chronicle) → IsChronicle configs before c → MadeBy configs before c → chronicles (Ok c) acts ≡ Ok last → AreApart last.story.world.tables → MadeBy configs (before ++ acts) last
unfolding chronicles
acts_made blocks configs before [] c last is made ran apart =
    subst (λ (l : List Act). MadeBy configs l last) (sym (append-nil before)) (subst (MadeBy configs before) (chronicle_same c last ran) made)
acts_made blocks configs before (act ∷ acts) c last is made ran apart =
    next_made blocks configs before c last act acts (after_act c act) is refl (act_made configs before c act is made) ran apart
    (λ next is_next made_next so. acts_made blocks configs (before ++ act ∷ []) acts next last is_next made_next so apart)

schedule_made : StepsGrow → (configs : List Config) (acts : List Act) (c : Chronicle) → IsChronicle configs acts c → MadeBy configs acts c
schedule_made blocks configs acts c is =
    acts_made blocks configs [] acts (blank (opening_world configs)) c (nothing_yet configs acts c is (begins_apart blocks (blank (opening_world configs)) c acts is.ran is.apart))
    (record { began = λ device t at. record { first = t; there = at; same = refl }; made = tt }) is.ran is.apart

-- ---- what is accepted

-- a table of the kind of a scanner is a scanner's
as_a_scanner : (t : DeviceTable) → is_scanner t ≡ true → (x : ScannerTable) × (t ≡ Scanner x)
as_a_scanner (Adapter t) is = absurd (let e = is in cc)
as_a_scanner (Scanner t) is = (t, refl)

pub record WriteLaws : Type 0 where
  pub blocks : StepsGrow
  pub names : SchedulesNameOpenings
  pub outputs : SlotsProduceTheirOutputs
  pub written : ProducedAsWritten

held_by : WriteLaws → (configs : List Config) (acts : List Act) (p : Production) (made : WasMade configs acts p.producer p.made) (x first : ScannerTable) → made.table ≡ Scanner x → slice_get (opening_world configs).tables p.producer.device ≡ Some (Scanner first) → WasWritten configs acts p
held_by laws configs acts p made x first table begins =
    let moment = made.moment in
    let there : IsScannerAt made.was p.producer.device x = made.there ∙ ap (λ (t : DeviceTable). Some t) table in
    let among : Contains (scanner_makes x made.happened) p.made = subst (λ (t : DeviceTable). Contains (makes t made.happened) p.made) table made.among in
    let by : IsSlots x p.made = all_contains (IsSlots x) (scanner_makes x made.happened) p.made (laws.outputs x made.happened) among in
    let slot = by.made in
    record {
      was = made.was;
      moment = made.moment;
      held = record {
        first = first;
        begins = begins;
        table = x;
        there = there;
        place = by.place;
        at = slot.there;
        came = subst (λ (n : ℕ). came_from n by.place.slot.state ≡ true) (sym made.number) slot.opening;
        output = slot.value;
        written = slot.value ∙ laws.written configs moment.early made.was moment.is p.producer.device first x by.place begins there slot.there;
      };
      carries = all_contains HasForm (scanner_makes x made.happened) p.made (scanner_forms x made.happened) among;
    }

pub accepted_written : WriteLaws → AcceptedDataWereWritten
accepted_written laws configs acts c is a t there at =
    let all = schedule_made laws.blocks configs acts c is in
    let names = laws.names configs acts c is in
    let opening = names.openings a t there at in
    let entry : IsEntry c.story.world c.opened opening.entry =
    all_contains (IsEntry c.story.world c.opened) c.opened opening.entry names.entries (found_holds (Contains c.opened) (opens_row a.consumer) c.opened opening.entry (all_contained c.opened [] c.opened refl) opening.found) in
    let scanner : IsScannerIn c.story.world a.production.producer.device = subst (λ (x : End). IsScannerIn c.story.world x.device) (sym opening.producer) entry.scanner in
    let produced : Contains c.produced a.production = all_contains (WasProduced c.produced) c.accepted a names.were_produced there in
    let made : WasMade configs acts a.production.producer a.production.made = all_contains (λ (p : Production). WasMade configs acts p.producer p.made) c.produced a.production all.made produced in
    let now = all.began a.production.producer.device (Scanner scanner.table) scanner.is in
    let moment = made.moment in
    let earlier = schedule_made laws.blocks configs moment.early made.was moment.is in
    let then_was = earlier.began a.production.producer.device made.table made.there in
    let same : then_was.first ≡ now.first = same_Some then_was.first now.first (sym then_was.there ∙ now.there) in
    let table = as_a_scanner made.table (then_was.same ∙ ap is_scanner same ∙ sym now.same) in
    let first = as_a_scanner now.first (sym now.same) in
    held_by laws configs acts a.production made table.0 first.0 table.1 (now.there ∙ ap (λ (x : DeviceTable). Some x) first.1)

-- ---- what scanners accept

-- a table of the kind of an adapter is an adapter's
as_an_adapter : (t : DeviceTable) → is_scanner t ≡ false → (x : AdapterTable) × (t ≡ Adapter x)
as_an_adapter (Adapter t) is = (t, refl)
as_an_adapter (Scanner t) is = absurd (let e = is in cc)

input_by : (configs : List Config) (acts : List Act) (p : Production) (made : WasMade configs acts p.producer p.made) (x : AdapterTable) → made.table ≡ Adapter x → p.made.datagram.payload ≡ p.made.value → WasInput configs acts p
input_by configs acts p made x table carries =
    let moment = made.moment in
    let among : Contains (makes (Adapter x) made.happened) p.made = subst (λ (t : DeviceTable). Contains (makes t made.happened) p.made) table made.among in
    let of : MadeOf x made.happened p.made = all_contains (MadeOf x made.happened) (makes (Adapter x) made.happened) p.made (all_made_of x made.happened) among in
    record {
      was = made.was;
      moment = moment;
      held = record {
        table = x;
        there = made.there ∙ ap (λ (t : DeviceTable). Some t) table;
        row = of.row;
        among = of.among;
        established = of.established;
        number = of.number ∙ sym made.number;
        input = at_input of.row.produced of.input;
      };
      carries = carries;
    }
  where
    at_input : (point : ℕ) → HasInput x made.happened point p.made.value → (p.made.value ≡ unwrap_or (bytes_at x.values point) []) ⊎ HappensNext made.was (IsMomentOf.late made.moment) p.producer.device (Write point p.made.value)
    at_input point (inl held) = inl held
    at_input point (inr written) = inr (subst (HappensNext made.was (IsMomentOf.late made.moment) p.producer.device) written made.next)

pub gathered_input : StepsGrow → SchedulesNameOpenings → GatheredDataWereInput
gathered_input blocks laws configs acts c is a t there at =
    let all = schedule_made blocks configs acts c is in
    let names = laws configs acts c is in
    let by : IsOfItsEntry c.opened a = all_contains (SlotAcceptsByEntry c.story.world c.opened) c.accepted a names.accepted there (record { table = t; is = at }) in
    let entry : IsEntry c.story.world c.opened by.entry = all_contains (IsEntry c.story.world c.opened) c.opened by.entry names.entries by.there in
    let adapter : slice_get c.story.world.tables a.production.producer.device ≡ Some (Adapter entry.table) = ap (slice_get c.story.world.tables) by.maker ∙ entry.there in
    let produced : Contains c.produced a.production = all_contains (WasProduced c.produced) c.accepted a names.were_produced there in
    let by_entry : IsMadeBy c.opened a.production.producer a.production.made =
    all_contains (ProducerHasEntry c.story.world c.opened) c.produced a.production names.producers produced (record { table = entry.table; is = adapter }) in
    let made : WasMade configs acts a.production.producer a.production.made = all_contains (λ (p : Production). WasMade configs acts p.producer p.made) c.produced a.production all.made produced in
    let now = all.began a.production.producer.device (Adapter entry.table) adapter in
    let moment = made.moment in
    let earlier = schedule_made blocks configs moment.early made.was moment.is in
    let then_was = earlier.began a.production.producer.device made.table made.there in
    let same : then_was.first ≡ now.first = same_Some then_was.first now.first (sym then_was.there ∙ now.there) in
    let table = as_an_adapter made.table (then_was.same ∙ ap is_scanner same ∙ sym now.same) in
    input_by configs acts a.production made table.0 table.1 by_entry.value
