use Rattle.station.proofs.Rounds.{last, next}
use Rattle.station.proofs.script.laws.times_are_exact.Goals as goal

pub returns-clause-last : goal.returns-clause-last
returns-clause-last c = last

pub returns-clause-next : goal.returns-clause-next
returns-clause-next c = next
