-- If an outcome follows the step of an adapter or a scanner, then it follows the step of the device.
use Rattle.std.proofs.Common.{Result, Ok, Err, IsOk, ap}
use Rattle.cip_events.specs.declared.event.StepFault.{StepFault}
use Rattle.cip_events.specs.declared.event.StepFault.TheVariants.{OutOfMemory, TickTooLong, ClockEnd, NoSuchPoint, WrongLength, NoSuchSlot, NotAllowedNow}
use Rattle.adapter_table.specs.declared.table.AdapterTable.{AdapterTable}
use Rattle.cip_tables.specs.declared.table.DeviceTable.TheVariants.{Adapter, Scanner}
use Rattle.adapter_table.specs.Requests.{Next}
use Rattle.scanner_table.specs.declared.table.ScannerTable.{ScannerTable}
use Rattle.scanner_table.specs.Effects.{Next as ScannerNext}
use Rattle.cip_tables.specs.Step.{as_adapter, as_scanner}
use Rattle.cip_events.specs.Outcomes.{Outcome, Follows}

still_ok : (said : Result Next StepFault) → IsOk said → IsOk (as_adapter said)
still_ok (Ok next) ok = ok
still_ok (Err fault) ok = ok

pub adapter_follows : (said : Result Next StepFault) (old : AdapterTable) (outcome : Outcome) (new : AdapterTable) → Follows said old outcome new → Follows (as_adapter said) (Adapter old) outcome (Adapter new)
adapter_follows said old (Ok answer) new follows = ap as_adapter follows
adapter_follows said old (Err OutOfMemory) new follows = (still_ok said follows.0, ap Adapter follows.1)
adapter_follows said old (Err TickTooLong) new follows = (ap as_adapter follows.0, ap Adapter follows.1)
adapter_follows said old (Err ClockEnd) new follows = (ap as_adapter follows.0, ap Adapter follows.1)
adapter_follows said old (Err NoSuchPoint) new follows = (ap as_adapter follows.0, ap Adapter follows.1)
adapter_follows said old (Err WrongLength) new follows = (ap as_adapter follows.0, ap Adapter follows.1)
adapter_follows said old (Err NoSuchSlot) new follows = (ap as_adapter follows.0, ap Adapter follows.1)
adapter_follows said old (Err NotAllowedNow) new follows = (ap as_adapter follows.0, ap Adapter follows.1)

scanner_ok : (said : Result ScannerNext StepFault) → IsOk said → IsOk (as_scanner said)
scanner_ok (Ok next) ok = ok
scanner_ok (Err fault) ok = ok

pub scanner_follows : (said : Result ScannerNext StepFault) (old : ScannerTable) (outcome : Outcome) (new : ScannerTable) → Follows said old outcome new → Follows (as_scanner said) (Scanner old) outcome (Scanner new)
scanner_follows said old (Ok answer) new follows = ap as_scanner follows
scanner_follows said old (Err OutOfMemory) new follows = (scanner_ok said follows.0, ap Scanner follows.1)
scanner_follows said old (Err TickTooLong) new follows = (ap as_scanner follows.0, ap Scanner follows.1)
scanner_follows said old (Err ClockEnd) new follows = (ap as_scanner follows.0, ap Scanner follows.1)
scanner_follows said old (Err NoSuchPoint) new follows = (ap as_scanner follows.0, ap Scanner follows.1)
scanner_follows said old (Err WrongLength) new follows = (ap as_scanner follows.0, ap Scanner follows.1)
scanner_follows said old (Err NoSuchSlot) new follows = (ap as_scanner follows.0, ap Scanner follows.1)
scanner_follows said old (Err NotAllowedNow) new follows = (ap as_scanner follows.0, ap Scanner follows.1)
