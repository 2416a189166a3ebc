use Rattle.std.proofs.Common.{ℕ, arith, Fits, w32, rules, subst, sym, List}
use Rattle.std.proofs.lemmas.Grind.{common_steps}
use Rattle.cip_epath.specs.Path.{IsTarget, IsTextOf}
use Rattle.cip_epath.specs.Written.{TargetFits}
use Rattle.cip_epath.specs.Laws.Texts.{target_text_is}
use Rattle.cip_epath.specs.Laws.PathLaws.{target_reads}
use Rattle.cip_epath.proofs.write.write_target.Goals as goal

pub returns-clause-text : goal.returns-clause-text
returns-clause-text c = grind (arith, common_steps)

pub returns-clause-is_text : goal.returns-clause-is_text
returns-clause-is_text c =
    let class : Fits w32 c.args.target.now.class = search rules in
    let instance : Fits w32 c.args.target.now.instance = search rules in
    let fits : TargetFits c.args.target.now = record { class = class.fits; instance = instance.fits; attribute = c.put_optional.ensures.fits } in
    subst (λ (text : List ℕ). IsTextOf IsTarget text c.args.target.now) (sym (returns-clause-text c)) (target_text_is _ fits)

pub returns-clause-read_back : goal.returns-clause-read_back
returns-clause-read_back c = target_reads _ _ (returns-clause-is_text c)
