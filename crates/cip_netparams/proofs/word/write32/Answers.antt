use Rattle.std.proofs.Common.{arith, rules, Fits, w16, ◌∙◌, ap}
use Rattle.cip_netparams.specs.Word.{params32}
use Rattle.cip_netparams.specs.Laws.Bits.{or_32, flag_below}
use Rattle.cip_netparams.specs.Laws.Words.{priority_below, type_below, word32_reads}
use Rattle.cip_netparams.proofs.word.write32.Goals as goal

pub returns-clause-value : goal.returns-clause-value
returns-clause-value c =
    let p = c.args.params.now in
    let size : Fits w16 c.args.params.now.size = search rules in
    let e = or_32 _ _ _ _ _ size.fits (flag_below p.variable) (priority_below p.priority) (type_below p.kind) (flag_below p.redundant) in
    rw (c.from.ensures, c.from-2.ensures, c.priority_bits.ensures, c.type_bits.ensures, c.from-3.ensures) (e ∙ omega arith)

pub returns-clause-read_back : goal.returns-clause-read_back
returns-clause-read_back c =
    let size : Fits w16 c.args.params.now.size = search rules in
    ap params32 (returns-clause-value c) ∙ word32_reads c.args.params.now size.fits
