use Rattle.adapter_table.specs.Fitting.{shaped_opening}
use Rattle.assembly_set.proofs.set.AssemblySet.new.Goals as goal

pub invariant_of-result : goal.invariant_of-result
invariant_of-result c = rw (c.in_ok-values.ensures, c.in_ok-profile.ensures) (shaped_opening c.args.profile.now c.requires)
