use Rattle.std.proofs.Common.{rules, ◌≡◌, ◌∙◌, ap, Some, arith}
use Rattle.trace_words.specs.Reader.{words_left}
use Rattle.trace_words.proofs.LineWords.{first_part, only_part}
use Rattle.trace_words.proofs.words.Words.word.Goals as goal

pub returns-in-Some : goal.returns-in-Some
returns-in-Some c =
    let was : c.args.self.now.rest ≡ Some c.in_ok-rest.rest = search rules in
    ap words_left was ∙ first_part 32 _ _ _ _ (omega arith) c.in-Some.is c.split_once.ensures.cases

pub returns-in-None : goal.returns-in-None
returns-in-None c =
    let was : c.args.self.now.rest ≡ Some c.in_ok-rest.rest = search rules in
    ap words_left was ∙ only_part 32 _ _ (omega arith) c.in-None.is c.split_once.ensures.cases
