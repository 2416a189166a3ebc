use Rattle.std.proofs.Common.{List, ℕ, sym, subst, ap, ◌∙◌}
use Rattle.cip_fwdopen.specs.Reply.{opened_reply, IsOpenReplyText, open_reply_reading}
use Rattle.cip_fwdopen.proofs.WrittenLaws.{opened_text_is, opened_text_reads}
use Rattle.cip_fwdopen.proofs.write.write_opened.Goals as goal
use Rattle.cip_fwdopen.specs.Services.{is_large_open}

pub returns-clause-text : goal.returns-clause-text
returns-clause-text c = rw c.in_ok-out.ensures.items at c.in_ok-put_opened.ensures.1

pub returns-clause-is_text : goal.returns-clause-is_text
returns-clause-is_text c = subst (λ (text : List ℕ). IsOpenReplyText text (opened_reply (is_large_open c.args.service) c.args.opened.now)) (sym (returns-clause-text c)) (opened_text_is (is_large_open c.args.service) c.args.opened.now c.in_ok-put_opened.ensures.0)

pub returns-clause-read_back : goal.returns-clause-read_back
returns-clause-read_back c = ap open_reply_reading (returns-clause-text c) ∙ opened_text_reads (is_large_open c.args.service) c.args.opened.now c.in_ok-put_opened.ensures.0
