use Rattle.std.proofs.Common.{rules}
use Rattle.cip_encap.specs.Reading.{message_reading}
use Rattle.cip_encap.proofs.read.parsed.Goals as goal

pub returns : goal.returns
unfolding message_reading
returns c = search rules
