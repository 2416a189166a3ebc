use Rattle.std.proofs.Common.{arith, sym, subst, ◌∙◌}
use Rattle.cip_epath.specs.Path.{IsTarget, IsReading}
use Rattle.cip_epath.specs.Laws.PathLaws.{target_reading_is, one_target_reading}
use Rattle.cip_epath.proofs.read.read_target.Goals as goal

pub returns-clause-reading : goal.returns-clause-reading
returns-clause-reading c = subst (IsReading IsTarget c.args.bytes.now) (sym c.walked_target.ensures) (target_reading_is c.args.bytes.now (λ i. omega (arith, c.type_inv.bytes i)))

pub returns-clause-only : goal.returns-clause-only
returns-clause-only c = λ other is. c.walked_target.ensures ∙ one_target_reading c.args.bytes.now (λ i. omega (arith, c.type_inv.bytes i)) other is
