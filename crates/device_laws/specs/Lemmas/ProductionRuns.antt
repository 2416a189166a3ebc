-- A device alone, over a list of events: its productions are in order, and no two slots of a scanner have one opening.
use Rattle.std.proofs.Common.{◌≡◌, ℕ, true, List, [], ◌∷◌, Some, None, Result, Ok, Err, IfOk, refl, eq-eqb}
use Rattle.std.proofs.lemmas.Option.{same_Some}
use Rattle.cip_events.specs.declared.event.Event.{Event}
use Rattle.cip_events.specs.declared.event.StepFault.{StepFault}
use Rattle.adapter_table.specs.declared.table.AdapterTable.{AdapterTable}
use Rattle.adapter_table.specs.Laws.{StepsKeep}
use Rattle.adapter_table.specs.Requests.{Next as AdapterNext}
use Rattle.adapter_table.specs.Step.{adapter_step}
use Rattle.adapter_table.specs.Whole.{IsWhole}
use Rattle.scanner_table.specs.declared.slot.SlotState.{SlotState}
use Rattle.scanner_table.specs.declared.slot.SlotState.TheVariants.{Idle, Opening, Established, TimedOut, Closing}
use Rattle.scanner_table.specs.declared.table.ScannerTable.{ScannerTable}
use Rattle.scanner_table.specs.Effects.{Next}
use Rattle.scanner_table.specs.Slots.{IndexedSlot, slot_at}
use Rattle.scanner_table.specs.Step.{scanner_step, scanner_table}
use Rattle.scanner_table.specs.Runs.{left_by, table_after}
use Rattle.scanner_table.specs.Whole.{IsWholeScanner}
use Rattle.scanner_table.specs.Lemmas.SlotLookups.{Stands, each_found, each_stands}
use Rattle.cip_tables.specs.declared.table.Config.{Config}
use Rattle.cip_tables.specs.declared.table.Config.TheVariants as config
use Rattle.cip_tables.specs.declared.table.DeviceTable.{DeviceTable}
use Rattle.cip_tables.specs.declared.table.DeviceTable.TheVariants.{Adapter, Scanner}
use Rattle.cip_tables.specs.Run.{table_of}
use Rattle.cip_tables.specs.Step.{DeviceNext, as_adapter, as_scanner, config_fault, opening_table, step}
use Rattle.cip_tables.specs.Whole.{IsWholeDevice}
use Rattle.device_laws.specs.Made.{makes, scanner_makes}
use Rattle.device_laws.specs.Productions.{Production, produced_more, AreInOrder}
use Rattle.device_laws.specs.ProductionRuns.{produced_unless, productions, RunsProduceInOrder, opening_number, OpeningsDiffer, SlotsHaveOpeningsOfTheirOwn}
use Rattle.device_laws.specs.Lemmas.ListCounts.{get_has}
use Rattle.device_laws.specs.Lemmas.Books.{WellMade}
use Rattle.device_laws.specs.Lemmas.ScannerBooks.{opening_in}
use Rattle.device_laws.specs.Lemmas.ScannerTicks.{Agrees, scanner_agrees}
use Rattle.device_laws.specs.Lemmas.DeviceBooks.{DeviceAgrees, device_begins}
use Rattle.device_laws.specs.Lemmas.BookSteps.{step_agrees}

-- ---- productions

-- each step keeps a device whole
abbrev pub StepsKeepWhole : Type 0
StepsKeepWhole = (t : DeviceTable) (event : Event) → IsWholeDevice t → IfOk (step t event) (λ next. IsWholeDevice next.1)

adapter_whole : (said : Result AdapterNext StepFault) → IfOk said (λ next. IsWhole next.1) → IfOk (as_adapter said) (λ next. IsWholeDevice next.1)
adapter_whole (Err why) whole = tt
adapter_whole (Ok next) whole = whole

scanner_whole : (said : Result Next StepFault) → IfOk said (λ next. IsWholeScanner next.1) → IfOk (as_scanner said) (λ next. IsWholeDevice next.1)
scanner_whole (Err why) whole = tt
scanner_whole (Ok next) whole = whole

if_ok : (said : Result AdapterNext StepFault) (P : AdapterTable → Type 0) → ((next : AdapterNext) → said ≡ Ok next → P next.1) → IfOk said (λ next. P next.1)
if_ok (Err why) P holds = tt
if_ok (Ok next) P holds = holds next refl

pub steps_whole : StepsKeep IsWhole → ((t : ScannerTable) (event : Event) → IsWholeScanner t → IfOk (scanner_step t event) (λ next. IsWholeScanner next.1)) → StepsKeepWhole
unfolding step
steps_whole adapters scanners (Adapter t) event whole = adapter_whole (adapter_step t event) (if_ok (adapter_step t event) IsWhole (λ next is. adapters t event next is whole))
steps_whole adapters scanners (Scanner t) event whole = scanner_whole (scanner_step t event) (scanners t event whole)

-- the device is whole and agrees with what it produced
record Stays (sent : List Production) (device : ℕ) (t : DeviceTable) : Type 0 where
  whole : IsWholeDevice t
  agrees : DeviceAgrees sent device t

one_step : (device : ℕ) (sent : List Production) (t : DeviceTable) (event : Event) (said : Result DeviceNext StepFault) → IfOk said (λ next. IsWholeDevice next.1) → IfOk said (λ next. DeviceAgrees (produced_more device sent (makes t event)) device next.1) → Stays sent device t → Stays (produced_unless device sent t event said) device (table_of t said)
one_step device sent t event (Err why) whole agrees ok = ok
one_step device sent t event (Ok next) whole agrees ok = record { whole = whole; agrees = agrees }

run_well : StepsKeepWhole → (device : ℕ) (events : List Event) (sent : List Production) (t : DeviceTable) → Stays sent device t → WellMade (productions device sent t events)
run_well keep device [] sent t ok = ok.agrees.well
run_well keep device (event ∷ events) sent t ok =
    run_well keep device events (produced_unless device sent t event (step t event)) (table_of t (step t event))
    (one_step device sent t event (step t event) (keep t event ok.whole) (step_agrees sent device t event ok.whole ok.agrees) ok)

pub in_order : (produced : List Production) → WellMade produced → AreInOrder produced
in_order produced well = record {
  numbered = well.numbered;
  agree = λ i j p q one two same at. well.agree p q (get_has produced i p one) (get_has produced j q two) same at;
}

pub runs_in_order : StepsKeepWhole → ((made : Config) → config_fault made ≡ None → IsWholeDevice (opening_table made)) → RunsProduceInOrder
runs_in_order keep fresh device made events none =
    in_order (productions device [] (opening_table made) events)
    (run_well keep device events [] (opening_table made) (record {
      whole = fresh made none;
      agrees = record { books = device_begins device made; well = record { numbered = tt; agree = λ p q one two same at. absurd one } };
    }))

-- ---- openings

-- a scanner agrees with some productions
record HasProduced (t : ScannerTable) : Type 0 where
  sent : List Production
  agrees : Agrees sent 0 t

next_produced : (t : ScannerTable) (event : Event) (sent : List Production) (said : Result Next StepFault) → Agrees sent 0 t → IfOk said (λ next. Agrees (produced_more 0 sent (scanner_makes t event)) 0 next.1) → HasProduced (left_by t said)
next_produced t event sent (Err why) was agrees = record { sent = sent; agrees = was }
next_produced t event sent (Ok next) was agrees = record { sent = produced_more 0 sent (scanner_makes t event); agrees = agrees }

run_produced : (events : List Event) (t : ScannerTable) → HasProduced t → HasProduced (table_after t events)
run_produced [] t ok = ok
run_produced (event ∷ events) t ok = run_produced events (left_by t (scanner_step t event)) (next_produced t event ok.sent (scanner_step t event) ok.agrees (scanner_agrees ok.sent 0 t event ok.agrees))

opens_so : (r : ℕ) (state : SlotState) → opening_number state ≡ Some r → opening_in r state ≡ true
opens_so r Idle is = absurd (let e = is in cc)
opens_so r (Opening o) is = eq-eqb o.request r (same_Some o.request r is)
opens_so r (Established c) is = eq-eqb c.opening r (same_Some c.opening r is)
opens_so r (TimedOut link) is = absurd (let e = is in cc)
opens_so r (Closing c) is = absurd (let e = is in cc)

stands_at : (t : ScannerTable) (place : IndexedSlot) → slot_at t place.number ≡ Some place → Stands t place
stands_at t place is = each_found (Stands t) _ _ place is (each_stands t)

differ_by : (t : ScannerTable) → HasProduced t → OpeningsDiffer t
differ_by t ok = λ a b r one two first second. ok.agrees.books.distinct a b r (stands_at t a one) (stands_at t b two) (opens_so r a.slot.state first) (opens_so r b.slot.state second)

pub openings_differ : SlotsHaveOpeningsOfTheirOwn
openings_differ profile events =
    differ_by (table_after (scanner_table profile) events)
    (run_produced events (scanner_table profile) (record { sent = []; agrees = record { books = device_begins 0 (config.Scanner profile); well = record { numbered = tt; agree = λ p q one two same at. absurd one } } }))
