use Rattle.std.proofs.Common.{List, ℕ, rules, sym, subst, ap, ◌∙◌}
use Rattle.cip_fwdopen.specs.Close.{closed_reply, IsCloseReplyText, close_reply_reading}
use Rattle.cip_fwdopen.specs.Reply.{TriadFits}
use Rattle.cip_fwdopen.proofs.CloseReplyLaws.{closed_text_is, closed_text_reads}
use Rattle.cip_fwdopen.proofs.close.write_closed.Goals as goal

pub returns-clause-text : goal.returns-clause-text
returns-clause-text c = rw c.in_ok-out.ensures.items at c.in_ok-put_closed.ensures

pub returns-clause-is_text : goal.returns-clause-is_text
returns-clause-is_text c =
    let fits : TriadFits c.args.triad = search rules in
    subst (λ (text : List ℕ). IsCloseReplyText text (closed_reply c.args.triad)) (sym (returns-clause-text c)) (closed_text_is c.args.triad fits)

pub returns-clause-read_back : goal.returns-clause-read_back
returns-clause-read_back c =
    let fits : TriadFits c.args.triad = search rules in
    ap close_reply_reading (returns-clause-text c) ∙ closed_text_reads c.args.triad fits
