use Rattle.object_laws.proofs.RouteSteps.{routes_alike}
use Rattle.object_laws.proofs.services.routes_serve_alike.Goals as goal

pub returns : goal.returns
returns c = routes_alike
