use Rattle.std.proofs.Common.{arith, ◌∙◌, ◌<◌, ap}
use Rattle.cip_netparams.specs.Word.{params16}
use Rattle.cip_netparams.specs.Laws.Bits.{or_16, flag_below}
use Rattle.cip_netparams.specs.Laws.Words.{priority_below, type_below, word16_reads}
use Rattle.cip_netparams.proofs.word.write16.Goals as goal

pub returns-clause-value : goal.returns-clause-value
returns-clause-value c =
    let p = c.args.params.now in
    let small : p.size < 512 = omega arith in
    let e = or_16 _ _ _ _ _ small (flag_below p.variable) (priority_below p.priority) (type_below p.kind) (flag_below p.redundant) in
    rw (c.from.ensures, c.from-2.ensures, c.priority_bits.ensures, c.type_bits.ensures, c.from-3.ensures) (e ∙ omega arith)

pub returns-clause-read_back : goal.returns-clause-read_back
returns-clause-read_back c = ap params16 (returns-clause-value c) ∙ word16_reads c.args.params.now (omega arith)
