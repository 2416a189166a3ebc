use Rattle.std.proofs.Common.{rules}
use Rattle.cip_epath.proofs.read.finished_target.Goals as goal

pub returns-in-Whole : goal.returns-in-Whole
returns-in-Whole c = search rules
