use Rattle.std.proofs.Common.{◌≡◌, List, ℕ, [], ◌++◌, arith, sym, subst, ap, ◌∙◌}
use Rattle.cip_fwdopen.specs.Close.{view_close, close_text, CloseFits, IsCloseText, close_reading}
use Rattle.cip_fwdopen.proofs.CloseLaws.{close_text_is, close_text_reads}
use Rattle.cip_fwdopen.proofs.close.write_close.Goals as goal

wrote : (c : goal.In_ok-put_bytes) → CloseFits (view_close c.args.request.now) × (c.put_close_front.new.out.items ++ c.args.request.now.path.now ≡ [] ++ close_text (view_close c.args.request.now))
wrote c = rw c.new-out.ensures.items at c.in_ok-put_close_front.ensures c.args.request.now.path.now (omega (arith, c.requires.whole_words, c.requires.short))

pub returns-clause-text : goal.returns-clause-text
returns-clause-text c = c.in_ok-put_bytes.ensures.ok ∙ (wrote c).1

pub returns-clause-is_text : goal.returns-clause-is_text
returns-clause-is_text c = subst (λ (text : List ℕ). IsCloseText text (view_close c.args.request.now)) (sym (returns-clause-text c)) (close_text_is (view_close c.args.request.now) (wrote c).0)

pub returns-clause-read_back : goal.returns-clause-read_back
returns-clause-read_back c = ap close_reading (returns-clause-text c) ∙ close_text_reads (view_close c.args.request.now) (wrote c).0
