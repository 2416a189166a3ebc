use Rattle.trace_stepper.proofs.Steps.{moved}
use Rattle.trace_stepper.proofs.stepper.Stepper.next.Goals as goal

pub returns : goal.returns
returns g c =
    let at = c.in-Some.ensures.lookup in
    moved (g.D.Device.table c.args.self.now.device) (g.D.Device.table c.step-outcome.new.self) c.as_slice.result.now c.args.self.now.trace.now.events c.args.self.now.place c.in-Some.entry.now c.step-outcome.result c.as_slice.ensures at.3.0 at.1 c.step-outcome.ensures.step (λ is. let no = c.if-is_out_of_memory.ensures.1 is in absurd (cc))
