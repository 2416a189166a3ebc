use Rattle.cip_encap.proofs.StreamLaws.{no_messages}
use Rattle.cip_encap.proofs.splitter.Splitter.new.Goals as goal

pub returns-clause-begins : goal.returns-clause-begins
returns-clause-begins c = rw c.new.ensures.items no_messages
