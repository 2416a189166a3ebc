use Rattle.object_laws.proofs.OwnedBit.{owned_bit}
use Rattle.object_laws.proofs.identities.the_owned_bit_says_owners.Goals as goal

pub returns : goal.returns
returns c = owned_bit
