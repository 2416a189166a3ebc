use Rattle.std.proofs.Common.{◌++◌, ◌∙◌, ap, string_bytes}
use Rattle.std.proofs.lemmas.List.{append_assoc}
use Rattle.trace_words.specs.StatusWords.Reasons.{extended_named, extended_number}
use Rattle.trace_words.proofs.status_words.push_extended_status.Goals as goal

pub returns : goal.returns
returns c = c.in_ok-push_extended_name.ensures ∙ ap (λ text. text ++ extended_named c.args.general c.args.extended) c.in_ok-push_extended_number.ensures ∙ append_assoc (string_bytes c.args.out.now) (extended_number c.args.extended) (extended_named c.args.general c.args.extended)
