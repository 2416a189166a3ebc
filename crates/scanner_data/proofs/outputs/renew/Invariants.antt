use Rattle.scanner_data.proofs.Changes.{Renewed}
use Rattle.scanner_data.proofs.outputs.renew.Given as goal

abbrev pub invariant-loop-index : goal.invariant-loop-index
invariant-loop-index l = Renewed l.configs l.initial.slots l.slots l.index
