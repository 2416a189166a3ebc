use Rattle.std.proofs.Common.{List, ℕ, arith, sym, subst, ap, ◌∙◌}
use Rattle.std.proofs.lemmas.Grind.{common_steps}
use Rattle.cip_epath.specs.Path.{IsTarget, IsTextOf}
use Rattle.cip_epath.specs.Written.{target_text}
use Rattle.cip_fwdopen.specs.Request.{IsRequestText, request_reading}
use Rattle.cip_fwdopen.specs.Get.{get_text, get_request}
use Rattle.cip_fwdopen.proofs.GetLaws.{get_text_is, get_text_reads}
use Rattle.cip_fwdopen.proofs.get.write_get.Goals as goal

pub returns-clause-text : goal.returns-clause-text
unfolding get_text
returns-clause-text c = grind (arith, common_steps)

spelled : (c : goal.After-drop-path-2) → IsTextOf IsTarget (target_text c.args.target.now) c.args.target.now
spelled c = subst (λ (text : List ℕ). IsTextOf IsTarget text c.args.target.now) c.in_ok-path.ensures.text c.in_ok-path.ensures.is_text

pub returns-clause-is_text : goal.returns-clause-is_text
returns-clause-is_text c = subst (λ (text : List ℕ). IsRequestText text (get_request c.args.target.now)) (sym (returns-clause-text c)) (get_text_is c.args.target.now (spelled c))

pub returns-clause-read_back : goal.returns-clause-read_back
returns-clause-read_back c = ap request_reading (returns-clause-text c) ∙ get_text_reads c.args.target.now (spelled c)
