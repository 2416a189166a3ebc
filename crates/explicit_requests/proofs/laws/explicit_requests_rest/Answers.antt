use Rattle.explicit_requests.proofs.Resting.{requests_rest}
use Rattle.explicit_requests.proofs.laws.explicit_requests_rest.Goals as goal

pub returns : goal.returns
returns c = requests_rest
