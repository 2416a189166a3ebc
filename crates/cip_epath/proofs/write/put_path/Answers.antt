use Rattle.std.proofs.Common.{arith, Fits, w32, rules}
use Rattle.std.specs.Prelude.{IfSome}
use Rattle.std.proofs.lemmas.Grind.{common_steps}
use Rattle.cip_epath.specs.Segment.{KeyFits}
use Rattle.cip_epath.specs.Path.{view_path}
use Rattle.cip_epath.proofs.Parts.{path_text_parts}
use Rattle.cip_epath.proofs.write.put_path.Goals as goal

pub returns-clause-text : goal.returns-clause-text
returns-clause-text c = grind (arith, common_steps, path_text_parts c.args.path.now)

pub returns-clause-fits : goal.returns-clause-fits
returns-clause-fits c =
    let class : Fits w32 c.args.path.now.class = search rules in
    let consumed : Fits w32 c.args.path.now.consumed = search rules in
    let produced : Fits w32 c.args.path.now.produced = search rules in
    let key : IfSome (view_path c.args.path.now).key KeyFits = search rules in
    record { key = key; inhibit = c.put_inhibit.ensures.fits; class = class.fits; config = c.put_optional.ensures.fits; consumed = consumed.fits; produced = produced.fits; segment = c.requires }
