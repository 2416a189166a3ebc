use Rattle.std.proofs.Common.{arith, sym, subst, ◌∙◌}
use Rattle.cip_epath.specs.Path.{IsPath, IsReading}
use Rattle.cip_epath.specs.Laws.PathLaws.{path_reading_is, one_path_reading}
use Rattle.cip_epath.proofs.read.read_path.Goals as goal

pub returns-clause-reading : goal.returns-clause-reading
returns-clause-reading c = subst (IsReading IsPath c.args.bytes.now) (sym c.walked_path.ensures) (path_reading_is c.args.bytes.now (λ i. omega (arith, c.type_inv.bytes i)))

pub returns-clause-only : goal.returns-clause-only
returns-clause-only c = λ other is. c.walked_path.ensures ∙ one_path_reading c.args.bytes.now (λ i. omega (arith, c.type_inv.bytes i)) other is
