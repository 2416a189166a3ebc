-- A step of a device of either kind keeps that the device and the list of productions agree.
use Rattle.std.proofs.Common.{ℕ, List, Result, Ok, Err, IfOk}
use Rattle.cip_events.specs.declared.event.Event.{Event}
use Rattle.cip_events.specs.declared.event.StepFault.{StepFault}
use Rattle.adapter_table.specs.Requests.{Next}
use Rattle.adapter_table.specs.Step.{adapter_step}
use Rattle.scanner_table.specs.Effects.{Next as ScannerNext}
use Rattle.scanner_table.specs.Step.{scanner_step}
use Rattle.cip_tables.specs.declared.table.DeviceTable.{DeviceTable}
use Rattle.cip_tables.specs.declared.table.DeviceTable.TheVariants.{Adapter, Scanner}
use Rattle.cip_tables.specs.Step.{DeviceNext, as_adapter, as_scanner, step}
use Rattle.cip_tables.specs.Whole.{IsWholeDevice}
use Rattle.device_laws.specs.Made.{makes, adapter_makes, scanner_makes}
use Rattle.device_laws.specs.Productions.{Production, produced_more}
use Rattle.device_laws.specs.Lemmas.ScannerTicks.{Agrees, scanner_agrees}
use Rattle.device_laws.specs.Lemmas.AdapterTicks.{AdapterAgrees, adapters_agree}
use Rattle.device_laws.specs.Lemmas.DeviceBooks.{DeviceAgrees}

abbrev NextAgrees : List Production → ℕ → DeviceNext → Type 0
NextAgrees sent device next = DeviceAgrees sent device next.1

as_adapter_agrees : (sent : List Production) (device : ℕ) (said : Result Next StepFault) → IfOk said (λ next. AdapterAgrees sent device next.1) → IfOk (as_adapter said) (NextAgrees sent device)
as_adapter_agrees sent device (Err why) ok = tt
as_adapter_agrees sent device (Ok next) ok = record { books = ok.books; well = ok.well }

as_scanner_agrees : (sent : List Production) (device : ℕ) (said : Result ScannerNext StepFault) → IfOk said (λ next. Agrees sent device next.1) → IfOk (as_scanner said) (NextAgrees sent device)
as_scanner_agrees sent device (Err why) ok = tt
as_scanner_agrees sent device (Ok next) ok = record { books = ok.books; well = ok.well }

pub step_agrees : (sent : List Production) (device : ℕ) (t : DeviceTable) (event : Event) → IsWholeDevice t → DeviceAgrees sent device t → IfOk (step t event) (λ next. DeviceAgrees (produced_more device sent (makes t event)) device next.1)
unfolding step
step_agrees sent device (Adapter t) event whole ok =
    as_adapter_agrees (produced_more device sent (adapter_makes t event)) device (adapter_step t event) (adapters_agree sent device t event whole (record { books = ok.books; well = ok.well }))
step_agrees sent device (Scanner t) event whole ok =
    as_scanner_agrees (produced_more device sent (scanner_makes t event)) device (scanner_step t event) (scanner_agrees sent device t event (record { books = ok.books; well = ok.well }))
