use Rattle.std.proofs.Common.{◌≤◌, ◌<◌, ℕ, arith}
use Rattle.cip_tables.specs.declared.table.DeviceTable.TheVariants.{Adapter, Scanner}
use Rattle.device_laws.specs.DueTicks.{DueTicksAct}
use Rattle.device_laws.proofs.AdapterDue.{adapter_waits}
use Rattle.device_laws.proofs.ScannerDue.{scanner_waits}
use Rattle.device_laws.proofs.due_ticks.due_ticks_act.Goals as goal

late : (clock due : ℕ) (B : Type 0) → due ≤ clock → clock < due → B
late clock due B le lt = absurd (omega (arith, le, lt))

acts : DueTicksAct
acts (Adapter t) ms short inside due is = late _ _ _ due (adapter_waits t ms short inside is)
acts (Scanner t) ms short inside due is = late _ _ _ due (scanner_waits t ms short inside is)

pub returns : goal.returns
returns c = acts
