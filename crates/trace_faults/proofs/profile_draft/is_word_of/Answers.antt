use Rattle.std.proofs.Common.{sym, ap, ◌∙◌, Some}
use Rattle.std.specs.Option.{option_eq}
use Rattle.trace_lines.specs.contracts.limit_lines.LimitNamePartialEq.TheImpl as limit_eq
use Rattle.trace_words.specs.Words.{is_word}
use Rattle.trace_faults.specs.ProfileLines.{word_of}
use Rattle.trace_faults.proofs.NumberedLines.{is_its_word}
use Rattle.trace_faults.proofs.profile_draft.is_word_of.Goals as goal

pub returns-in-Limit : goal.returns-in-Limit
returns-in-Limit c =
    c.eq-in-Limit.ensures ∙ ap (λ got. option_eq (limit_eq.ghosts).eq got (Some c.in-Limit.row)) c.limit_named.ensures
    ∙ is_its_word c.in-Limit.row c.args.word.now ∙ ap (λ name. is_word (word_of name) c.args.word.now) (sym c.in-Limit.is)
