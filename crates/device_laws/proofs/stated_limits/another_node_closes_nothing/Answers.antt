use Rattle.device_laws.proofs.StatedLimits.{closes_nothing, ends_nothing}
use Rattle.device_laws.proofs.stated_limits.another_node_closes_nothing.Goals as goal

pub returns : goal.returns
returns c = record { «data» = closes_nothing; messages = ends_nothing }
