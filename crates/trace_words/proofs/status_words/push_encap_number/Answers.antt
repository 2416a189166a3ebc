use Rattle.std.proofs.Common.{◌++◌, ◌∙◌, ap, string_bytes}
use Rattle.std.proofs.lemmas.List.{append_assoc}
use Rattle.std.specs.Prelude.{codes}
use Rattle.trace_words.specs.StatusWords.Reasons.{encap_digits}
use Rattle.trace_words.proofs.status_words.push_encap_number.Goals as goal

pub returns : goal.returns
returns c = c.in_ok-push_encap_digits.ensures ∙ ap (λ text. text ++ encap_digits c.args.status) c.in_ok-push_text.ensures ∙ append_assoc (string_bytes c.args.out.now) (codes "encapsulation status 0x") (encap_digits c.args.status)
