use Rattle.std.proofs.Common.{List, ℕ, ◌<◌, ◌^◌, rules, Fits, w8, sym, subst, ap, ◌∙◌}
use Rattle.std.specs.Prelude.{IfSome}
use Rattle.cip_fwdopen.specs.Reply.{refused_reply, IsOpenReplyText, open_reply_reading, TriadFits, RefusedFits}
use Rattle.cip_fwdopen.proofs.WrittenLaws.{refused_text_is, refused_text_reads}
use Rattle.cip_fwdopen.proofs.write.write_refused.Goals as goal

fits : (c : goal.In_ok-put_refused) → RefusedFits c.args.fault c.args.triad
fits c =
    let general : Fits w8 c.args.fault.general = search rules in
    let extended : IfSome c.args.fault.extended (λ code. code < 2 ^ 16) = search rules in
    let triad : IfSome c.args.triad TriadFits = search rules in
    record { refuses = c.requires; general = general.fits; extended = extended; triad = triad }

pub returns-clause-text : goal.returns-clause-text
returns-clause-text c = rw c.new-out.ensures.items at c.in_ok-put_refused.ensures

pub returns-clause-is_text : goal.returns-clause-is_text
returns-clause-is_text c =
    subst (λ (text : List ℕ). IsOpenReplyText text (refused_reply c.args.service c.args.fault c.args.triad)) (sym (returns-clause-text c)) (refused_text_is c.args.service c.args.fault c.args.triad (fits c))

pub returns-clause-read_back : goal.returns-clause-read_back
returns-clause-read_back c = ap open_reply_reading (returns-clause-text c) ∙ refused_text_reads c.args.service c.args.fault c.args.triad (fits c)
