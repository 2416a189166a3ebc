use Rattle.std.proofs.Common.{sym, ◌∙◌}
use Rattle.cip_fwdopen.proofs.ParamsLaws.{masked_half}
use Rattle.cip_fwdopen.proofs.open.params_of.Goals as goal

pub returns-else-large : goal.returns-else-large
returns-else-large c = rw (sym c.is_large-large.ensures ∙ c.if-large.false) (c.read16.ensures.value ∙ masked_half c.args.word)
