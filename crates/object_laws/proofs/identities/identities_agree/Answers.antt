use Rattle.object_laws.proofs.IdentityLaws.{identities_agree}
use Rattle.object_laws.proofs.identities.identities_agree.Goals as goal

pub returns : goal.returns
returns c = identities_agree
