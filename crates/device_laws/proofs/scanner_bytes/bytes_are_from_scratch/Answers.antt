use Rattle.device_laws.proofs.ScratchSteps.{steps_leave, refusals_touch_nothing, bytes_from_scratch, fresh_from_scratch}
use Rattle.device_laws.proofs.scanner_bytes.bytes_are_from_scratch.Goals as goal

pub returns : goal.returns
returns c = record { step = steps_leave; refusal = refusals_touch_nothing; events = bytes_from_scratch; fresh = fresh_from_scratch }
