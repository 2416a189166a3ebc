use Rattle.std.proofs.Common.{◌++◌, ◌∙◌, ap, string_bytes}
use Rattle.std.proofs.lemmas.List.{append_assoc}
use Rattle.trace_words.specs.StatusWords.Reasons.{encap_number, encap_words, named_text}
use Rattle.trace_words.proofs.status_words.push_encap.Goals as goal

pub returns : goal.returns
returns c = c.in_ok-push_encap_name.ensures ∙ ap (λ text. text ++ named_text (encap_words c.args.status)) c.in_ok-push_encap_number.ensures ∙ append_assoc (string_bytes c.args.out.now) (encap_number c.args.status) (named_text (encap_words c.args.status))
