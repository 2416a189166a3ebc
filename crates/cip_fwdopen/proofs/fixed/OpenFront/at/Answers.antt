use Rattle.cip_fwdopen.proofs.fixed.OpenFront.at.Goals as goal
use Rattle.std.proofs.Common.{sym, ◌∙◌}

pub returns-then-large : goal.returns-then-large
returns-then-large c = rw (sym c.is_large-large.ensures ∙ c.if-large.true) c.large_at.ensures

pub returns-else-large : goal.returns-else-large
returns-else-large c = rw (sym c.is_large-large.ensures ∙ c.if-large.false) c.short_at.ensures
