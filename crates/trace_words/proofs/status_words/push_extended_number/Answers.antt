use Rattle.std.proofs.Common.{◌++◌, ◌∙◌, ap, string_bytes}
use Rattle.std.proofs.lemmas.List.{append_assoc}
use Rattle.std.specs.Prelude.{codes}
use Rattle.trace_words.specs.StatusWords.Reasons.{extended_digits}
use Rattle.trace_words.proofs.status_words.push_extended_number.Goals as goal

pub returns : goal.returns
returns c = c.in_ok-push_extended_digits.ensures ∙ ap (λ text. text ++ extended_digits c.args.extended) c.in_ok-push_text.ensures ∙ append_assoc (string_bytes c.args.out.now) (codes ", extended status 0x") (extended_digits c.args.extended)
