use Rattle.std.proofs.Common.{rules}
use Rattle.cip_fwdopen.proofs.write.put_params.Goals as goal

pub write16-requires : goal.write16-requires
write16-requires c = search rules

pub returns-then-large : goal.returns-then-large
returns-then-large c = search rules
