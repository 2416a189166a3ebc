use Rattle.object_laws.proofs.RouteLaws.{messages_connect}
use Rattle.object_laws.proofs.services.messages_connect_nothing.Goals as goal

pub returns : goal.returns
returns c = messages_connect
