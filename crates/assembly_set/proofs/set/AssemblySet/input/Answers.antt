use Rattle.assembly_set.proofs.Shaping.{input_short}
use Rattle.assembly_set.proofs.set.AssemblySet.input.Goals as goal

pub returns-clause-short : goal.returns-clause-short
returns-clause-short c =
    let fields = c.self.inside in
    input_short fields.profile c.args.point c.input.result c.self.invariant.faultless c.input.ensures
