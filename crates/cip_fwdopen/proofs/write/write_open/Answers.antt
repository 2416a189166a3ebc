use Rattle.std.proofs.Common.{◌≡◌, List, ℕ, [], ◌++◌, arith, sym, subst, ap, ◌∙◌}
use Rattle.cip_fwdopen.specs.Open.{view_open, open_text, OpenFits, IsOpenText, open_reading}
use Rattle.cip_fwdopen.proofs.OpenLaws.{open_text_is, open_text_reads}
use Rattle.cip_fwdopen.proofs.write.write_open.Goals as goal
use Rattle.cip_fwdopen.specs.Services.{is_large_open}

wrote : (c : goal.In_ok-put_bytes) → OpenFits (is_large_open c.args.service) (view_open c.args.request.now) × (c.put_open_front.new.out.items ++ c.args.request.now.path.now ≡ [] ++ open_text (is_large_open c.args.service) (view_open c.args.request.now))
wrote c = rw c.new-out.ensures.items at c.in_ok-put_open_front.ensures c.args.request.now.path.now (omega (arith, c.requires.whole_words, c.requires.short))

pub returns-clause-text : goal.returns-clause-text
returns-clause-text c = c.in_ok-put_bytes.ensures.ok ∙ (wrote c).1

pub returns-clause-is_text : goal.returns-clause-is_text
returns-clause-is_text c = subst (λ (text : List ℕ). IsOpenText (is_large_open c.args.service) text (view_open c.args.request.now)) (sym (returns-clause-text c)) (open_text_is (is_large_open c.args.service) (view_open c.args.request.now) (wrote c).0)

pub returns-clause-read_back : goal.returns-clause-read_back
returns-clause-read_back c = ap (open_reading (is_large_open c.args.service)) (returns-clause-text c) ∙ open_text_reads (is_large_open c.args.service) (view_open c.args.request.now) (wrote c).0
