use Rattle.std.proofs.Common.{rules}
use Rattle.cip_epath.proofs.check.matches_revision.Goals as goal

pub returns-then-key : goal.returns-then-key
returns-then-key c = search rules
