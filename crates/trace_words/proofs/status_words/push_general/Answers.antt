use Rattle.std.proofs.Common.{◌++◌, ◌∙◌, ap, string_bytes}
use Rattle.std.proofs.lemmas.List.{append_assoc}
use Rattle.trace_words.specs.StatusWords.Reasons.{general_number, named_text}
use Rattle.trace_words.specs.StatusWords.Statuses.{status_name}
use Rattle.trace_words.proofs.status_words.push_general.Goals as goal

pub returns : goal.returns
returns c = c.in_ok-push_general_name.ensures ∙ ap (λ text. text ++ named_text (status_name c.args.general)) c.in_ok-push_general_number.ensures ∙ append_assoc (string_bytes c.args.out.now) (general_number c.args.general) (named_text (status_name c.args.general))
