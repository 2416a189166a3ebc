use Rattle.device_laws.proofs.PlainSteps.{stay_plain}
use Rattle.device_laws.proofs.plain_frames.plain_devices_stay_plain.Goals as goal

pub returns : goal.returns
returns c = stay_plain c.reads_back.ensures.items c.answers_are_small.ensures
