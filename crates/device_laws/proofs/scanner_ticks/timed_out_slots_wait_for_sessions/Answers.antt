use Rattle.device_laws.proofs.TimedOutSteps.{slots_wait}
use Rattle.device_laws.proofs.scanner_ticks.timed_out_slots_wait_for_sessions.Goals as goal

pub returns : goal.returns
returns c = slots_wait
