use Rattle.assembly_set.proofs.Shaping.{output_short}
use Rattle.assembly_set.proofs.set.AssemblySet.output.Goals as goal

pub returns-clause-short : goal.returns-clause-short
returns-clause-short c =
    let fields = c.self.inside in
    output_short fields.profile c.args.point c.output.result c.self.invariant.faultless c.output.ensures
