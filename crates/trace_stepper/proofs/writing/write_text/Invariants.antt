use Rattle.trace_stepper.proofs.Writes.{IsWriting}
use Rattle.trace_stepper.proofs.writing.write_text.Given as goal

abbrev pub invariant-loop : goal.invariant-loop
invariant-loop g l = IsWriting (g.W.Write.contents l.fn.out) l.fn.text l.rest (g.W.Write.contents l.out)
