use Rattle.scanner_table.specs.Drawn.{NumbersAreOwn}
use Rattle.scanner_table.specs.Lemmas.Events.{events_keep}
use Rattle.scanner_table.proofs.OwnSteps.{fresh_own, steps_own}
use Rattle.scanner_table.proofs.counters.numbers_are_below_the_next.Goals as goal

pub returns : goal.returns
returns c = record { steps = steps_own; events = events_keep NumbersAreOwn steps_own; fresh = fresh_own }
