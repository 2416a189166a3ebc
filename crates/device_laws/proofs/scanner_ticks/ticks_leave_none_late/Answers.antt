use Rattle.device_laws.proofs.DeadlineSteps.{ticks_leave_none_late}
use Rattle.device_laws.proofs.scanner_ticks.ticks_leave_none_late.Goals as goal

pub returns : goal.returns
returns c = ticks_leave_none_late
