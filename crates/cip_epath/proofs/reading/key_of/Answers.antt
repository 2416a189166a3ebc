use Rattle.std.proofs.Common.{rules}
use Rattle.cip_epath.specs.Reading.{key_at}
use Rattle.cip_epath.proofs.reading.key_of.Goals as goal

pub returns : goal.returns
unfolding key_at
returns c = search rules
